-- Marks: the items that a byte ends, the turns of the loops that store marks and raise bytes, and that a label has as many marks as points.
use Prim.Native.Nat.{ℕ, suc, ◌+◌, ◌≤◌, ◌<◌}
use mathlib.Core.Path.{◌≡◌, refl, sym, ap, ap₂, ◌∙◌}
use mathlib.Core.Bool.{Bool, true, false}
use mathlib.Core.List.{List, [], ◌∷◌, ◌++◌, map, append-nil}
use native.Mathlib.Numerals.{add-one}
use native.Mathlib.Omega.{arith}
use lib.Dec.{eqb, ltb}
use lib.ListN.{length, get_or, take, drop, set, length-append, length-drop, drop_of_length-le, take-append-drop}
use lib.Seq.{sets, sets-eq, drop_at, drop-cons, drop-drop, drop-set-lt, get_or-drop}
use borrow.Author.Tests.{eq-eqb, ne_eqb}
use Rattle.std.specs.Int.{from_bool}
use Rattle.basis.specs.Tests.{pick, both}
use Rattle.basis.specs.Rows.{at}
use Rattle.basis.specs.Outcome.{done, count_of}
use Rattle.basis.proofs.Tests.{cases, both_false}
use Rattle.basis.proofs.Outcome.{passed}
use Rattle.basis.proofs.Lists.{sets-front}
use Rattle.basis.proofs.Parts.{front-is}
use Rattle.basis.proofs.Stores.{Storing, Stored, stored-none, stored_one, storing-all, storing-piece, storing-none}
use Rattle.ascii.specs.Case.{is_capital, capital}
use Rattle.alphabet.specs.Alphabet.{altdude, value_of, look_up}
use Rattle.alphabet.specs.declared.Character.{Character}
use Rattle.alphabet.proofs.Inverse.{value-le, altdude-alphabet}
use Rattle.alphabet.proofs.LookUp.{value_found, capital-found}
use Rattle.labels.specs.Tests.{label_tests}
use Rattle.labels.proofs.FirstTests.{label-passed}
use Rattle.altdude.specs.Symbols.{symbol_of}
use Rattle.altdude.specs.Decoding.{next_remembered, next_pending, adds, text_from, text_of}
use Rattle.altdude.specs.Answer.{decode_outcome}
use Rattle.altdude.specs.Marks.{ends_item, items_ended, marked_byte, marked, shows_mark, marks_of}

-- a byte ends an item as a hyphen or by its value, and how many items are ended then
module _ (byte : ℕ) where
  pub ends-hyphen : byte ≡ 45 → eqb byte 45 ≡ ends_item byte
  unfolding ends_item
  ends-hyphen e = rw (eq-eqb byte 45 e)

  pub ends-found : (byte ≡ 45 → ⊥) → {found : Character} → found ≡ look_up altdude byte → ltb found.value 16 ≡ ends_item byte
  unfolding ends_item
  ends-found n e = rw (ne_eqb byte 45 n, value_found altdude byte e)

  module _ (b : Bool) (is : b ≡ ends_item byte) (ended : ℕ) (count : ended ≡ from_bool b) where
    pub ended-count : ended ≡ items_ended byte
    unfolding items_ended
    ended-count = count ∙ rw (← is) (cases b (λ t. rw t) (λ f. rw f))

    pub ended-le : ended ≤ 1
    ended-le = rw count (cases b (λ t. rw t (omega arith)) (λ f. rw f (omega arith)))

-- what is stored for a byte that ends an item: a mark of 1 makes it a capital
module _ (mark byte : ℕ) where
  pub byte_inside : ends_item byte ≡ false → byte ≡ marked_byte mark byte
  unfolding marked_byte both
  byte_inside f = rw f

  pub byte-raised : ends_item byte ≡ true → mark ≡ 1 → capital byte ≡ marked_byte mark byte
  unfolding marked_byte both
  byte-raised t e = rw (t, eq-eqb mark 1 e)

  pub byte-unmarked : ends_item byte ≡ true → (mark ≡ 1 → ⊥) → byte ≡ marked_byte mark byte
  unfolding marked_byte both
  byte-unmarked t n = rw (t, ne_eqb mark 1 n)

-- the mark that a byte shows, as it is stored
module _ (byte : ℕ) where
  pub shows-none : (old : List ℕ) (at : ℕ) → ends_item byte ≡ false → Stored old at (shows_mark byte []) old at
  unfolding shows_mark
  shows-none old at f = rw f (stored-none _ _)

  pub shows-one : (old : List ℕ) (at : ℕ) → ends_item byte ≡ true → {found : Character} → found ≡ look_up altdude byte → (mark : ℕ) → mark ≡ from_bool found.capital
      → Stored old at (shows_mark byte []) (set old at mark) (at + 1)
  unfolding shows_mark
  shows-one old at t e mark m =
      let shown : mark ≡ pick {A = ℕ} (is_capital byte) 1 0 = m ∙ rw (capital-found altdude byte e) (cases (is_capital byte) (λ t. rw t) (λ f. rw f)) in
      rw (t, ← shown) (stored_one _ _ _)

  shows-before : (rest : List ℕ) → shows_mark byte rest ≡ shows_mark byte [] ++ rest
  unfolding shows_mark
  shows-before rest = cases (ends_item byte) (λ t. rw t) (λ f. rw f)

  shows-le : length (shows_mark byte []) ≤ 1
  unfolding shows_mark
  shows-le = cases (ends_item byte) (λ t. rw t (omega arith)) (λ f. rw f (omega arith))

-- a label has at most as many marks as bytes
marks-le : (l : List ℕ) → length (marks_of l) ≤ length l
unfolding marks_of
marks-le [] = omega arith
marks-le (b ∷ l) = rw (shows-before b (marks_of l), length-append) (omega (arith, shows-le b, marks-le l))

-- what the loop that stores marks keeps: what is left of them is still to be stored, from an index that is not ahead
pub record Showing (l old now : List ℕ) (at i : ℕ) : Type 0 where
  pub storing : Storing old (marks_of l) now at (marks_of (drop i l))
  pub behind : at ≤ i

pub showing-start : (l old : List ℕ) → Showing l old old 0 0
showing-start l old = record { storing = storing-all old (marks_of l); behind = omega arith }

pub showing-turn : (l old now : List ℕ) (at i : ℕ) → Showing l old now at i → i < length l
    → {later : List ℕ} {next : ℕ} → Stored now at (shows_mark (get_or l i 0) []) later next → Showing l old later next (i + 1)
unfolding marks_of
showing-turn l old now at i s h stored = record {
  storing = storing-piece s.storing here stored;
  behind = omega (arith, stored.count, shows-le (get_or l i 0), s.behind);
}
  where
    here : marks_of (drop i l) ≡ shows_mark (get_or l i 0) [] ++ marks_of (drop (i + 1) l)
    here = ap marks_of (drop-cons l i 0 h) ∙ rw add-one (shows-before (get_or l i 0) (marks_of (drop (suc i) l)))

pub showing-end : (l old now : List ℕ) (at i : ℕ) → Showing l old now at i → length l ≤ i → length l ≤ length old
    → now ≡ marks_of l ++ drop (length (marks_of l)) old
unfolding marks_of
showing-end l old now at i s h fits =
    (storing-none _ _ _ _ _ s.storing (ap marks_of (drop_of_length-le l h)) (omega (arith, marks-le l))).1

-- a label with marks is as long as without
pub length_marked : (marks l : List ℕ) → length (marked marks l) ≡ length l
unfolding marked
length_marked marks [] = refl
length_marked marks (b ∷ l) = ap suc (length_marked (drop (items_ended b) marks) l)

-- marks that are 0, also past their end, change nothing; so do no marks at all
pub marked-zeros : (marks l : List ℕ) → ((i : ℕ) → at marks i ≡ 0) → marked marks l ≡ l
unfolding marked marked_byte
marked-zeros marks [] z = refl
marked-zeros marks (b ∷ l) z =
    ap₂ ◌∷◌ (rw (z 0, both_false)) (marked-zeros (drop (items_ended b) marks) l (λ i. get_or-drop (items_ended b) marks i 0 ∙ z (items_ended b + i)))

-- a buffer is left as it is by storing what it holds
sets_same : (i : ℕ) (l : List ℕ) → i ≤ length l → sets l i (drop i l) ≡ l
sets_same i l h =
    let fits : i + length (drop i l) ≤ length l = omega (arith, length-drop i l) in
    let none : length l ≤ i + length (drop i l) = omega (arith, length-drop i l) in
    sets-eq (drop i l) l i fits
    ∙ ap (λ (rest : List ℕ). (take i l ++ drop i l) ++ rest) (drop_of_length-le l none) ∙ append-nil (take i l ++ drop i l) ∙ take-append-drop i l

-- what the loop that raises bytes keeps: what is left of the label with marks is still to be stored, the bytes from i on are those of
-- the label without, and no more marks are taken than bytes
pub record Raising (marks old now : List ℕ) (next i : ℕ) : Type 0 where
  pub storing : Storing old (marked marks old) now i (marked (drop next marks) (drop i old))
  pub same : drop i now ≡ drop i old
  pub few : next ≤ i

pub raising-start : (marks old : List ℕ) → Raising marks old old 0 0
raising-start marks old = record { storing = storing-all old (marked marks old); same = refl; few = omega arith }

module _ (marks old now : List ℕ) (next i : ℕ) (r : Raising marks old now next i) where
  pub raising-turn : i < length now → (value : ℕ) → value ≡ marked_byte (at marks next) (get_or now i 0)
      → (more : ℕ) → more ≡ items_ended (get_or now i 0) → more ≤ 1 → Raising marks old (set now i value) (next + more) (i + 1)
  unfolding marked
  raising-turn h value value_is more more_is one = record {
    storing = storing-piece r.storing here (stored_one _ _ _);
    same = drop-set-lt (i + 1) now i value (omega arith) ∙ sym (drop-drop 1 i now) ∙ ap (drop 1) r.same ∙ drop-drop 1 i old;
    few = omega (arith, r.few);
  }
    where
      inside : i < length old
      inside = omega (arith, r.storing.long)

      byte : get_or now i 0 ≡ get_or old i 0
      byte = sym (first now) ∙ ap (λ (l : List ℕ). at l 0) r.same ∙ first old
        where
          first : (l : List ℕ) → at (drop i l) 0 ≡ at l i
          first l = get_or-drop i l 0 0 ∙ ap (at l) (omega arith)

      here : marked (drop next marks) (drop i old) ≡ value ∷ marked (drop (next + more) marks) (drop (i + 1) old)
      here =
          let first : at (drop next marks) 0 ≡ at marks next = get_or-drop next marks 0 0 ∙ ap (at marks) (omega arith) in
          ap (marked (drop next marks)) (drop-cons old i 0 inside)
          ∙ rw (first, drop-drop (items_ended (get_or old i 0)) next marks, ← byte, ← value_is, ← more_is, add-one)

  -- no mark is left
  pub raising-over : i < length now → length marks ≤ next → now ≡ marked marks old
  raising-over h none =
      let inside : i ≤ length now = omega arith in
      let left : marked (drop next marks) (drop i old) ≡ drop i now
      = ap (λ (ms : List ℕ). marked ms (drop i old)) (drop_of_length-le marks none) ∙ marked-zeros [] (drop i old) (λ k. refl) ∙ sym r.same in
      let whole : length (marked marks old) ≡ length old = length_marked marks old in
      sym (sets_same i now inside) ∙ ap (sets now i) (sym left) ∙ r.storing.stores
      ∙ sets-front (marked marks old) old (omega arith)
      ∙ ap (λ (l : List ℕ). marked marks old ++ l) (drop_of_length-le old {i = length (marked marks old)} (omega arith)) ∙ append-nil (marked marks old)

  pub raising-end : length now ≤ i → now ≡ marked marks old
  unfolding marked
  raising-end h =
      let long : length old ≤ i = omega (arith, r.storing.long) in
      let whole : length (marked marks old) ≡ length old = length_marked marks old in
      (storing-none _ _ _ _ _ r.storing (ap (marked (drop next marks)) (drop_of_length-le old long)) (omega arith)).1
      ∙ ap (λ (l : List ℕ). marked marks old ++ l) (drop_of_length-le old {i = length (marked marks old)} (omega arith)) ∙ append-nil (marked marks old)

-- a label that was stored in front of a buffer, with its marks
pub raised-front : (marks front old now : List ℕ) (n : ℕ) → n ≡ length front → now ≡ front ++ drop n old
    → (part : List ℕ) → part ≡ marked marks (take n now) → part ++ drop n now ≡ marked marks front ++ drop n old
raised-front marks front old now n count is part e =
    ap₂ ◌++◌ (e ∙ ap (marked marks) (front-is n front (drop n old) now count is)) (ap (drop n) is ∙ drop_at front (drop n old) n (sym count))

-- a label has as many marks as points
shown-added : (m v b : ℕ) (shown added : List ℕ) → length shown ≡ length added → length (shows_mark b shown) ≡ length (adds m v (symbol_of b) added)
unfolding shows_mark adds ends_item symbol_of
shown-added m v b shown added e =
    cases (eqb b 45)
    (λ y. rw y (ap suc e))
    (λ n. cases (ltb (value_of altdude b) 16)
    (λ low. rw (n, low) (ap suc e))
    (λ high. rw (n, high, ne_eqb (value_of altdude b) 45 (λ q. omega (arith, value-le altdude altdude-alphabet b))) e))

pub marks-as-points : (m v : ℕ) (l : List ℕ) → length (marks_of l) ≡ length (text_from m v (map symbol_of l))
unfolding marks_of text_from
marks-as-points m v [] = refl
marks-as-points m v (b ∷ l) =
    shown-added m v b _ _ (marks-as-points (next_remembered m v (symbol_of b)) (next_pending v (symbol_of b)) l)

pub as-many-marks : (l : List ℕ) → length (marks_of l) ≡ length (text_of l)
unfolding text_of
as-many-marks l = marks-as-points 96 0 l

-- what an accepted label has: at most 63 bytes, and the count is that of its text
pub accepted-has : (capacity : ℕ) (l : List ℕ) (count : ℕ) → decode_outcome capacity l ≡ done count → (length l ≤ 63) × (count ≡ length (text_of l))
unfolding decode_outcome label_tests count_of
accepted-has capacity l count e =
    let first = label-passed capacity (length l) count _ e in
    let short = (passed _ _ _ _ _ (passed _ _ _ _ _ (passed _ _ _ _ _ e).1).1).1 in
    let last : done (length (text_of l)) ≡ done count = (passed _ _ _ _ _ (passed _ _ _ _ _ (passed _ _ _ _ _ short).1).1).1 in
    (first.short, sym (ap count_of last))
