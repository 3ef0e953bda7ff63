-- Laws on marks in a label, over all lists of numbers but where a text or a label that may be read is asked for.
use Prim.Native.Nat.{ℕ, zero, suc, ◌+◌, ◌-◌, ◌*◌, ◌/◌, ◌%◌, ◌≤◌, ◌<◌}
use mathlib.Core.Path.{◌≡◌, refl, sym, ap, ap₂, ◌∙◌}
use mathlib.Core.Bool.{true, false, ◌||◌, or-false}
use mathlib.Core.Logic.{inl, ⊎_elim}
use mathlib.Core.List.{List, [], ◌∷◌, ◌++◌, map}
use lib.Bits.{bit_xor}
use lib.Dec.{eqb, ltb}
use lib.ListN.{length, drop}
use borrow.Author.Tests.{lt-ltb, le-ltb, eqb-true, eqb-false, ne_eqb, not-true}
use native.Mathlib.Omega.{arith}
use Rattle.basis.specs.Tests.{pick, both, every, within}
use Rattle.basis.specs.Rows.{at}
use Rattle.basis.proofs.Tests.{cases, by-lt, both_left, both_right, both_false, at_each, within_low, within-high}
use Rattle.basis.proofs.Lists.{row-tabulate}
use Rattle.ascii.specs.Case.{is_capital, small, capital}
use Rattle.ascii.proofs.Case.{capital-inside, capital-below, capital-above, capital-of-small, capital-of-lower, capital-of-form, small-other, small-small, small-of-capital, all_small}
use Rattle.ascii.proofs.EdgeHyphen.{small-keeps-hyphen}
use Rattle.labels.specs.Marks.{may_mark, no_marks}
use Rattle.labels.proofs.MarkTests.{LawfulMarks, mark-is, lawful-more, lawful-tail}
use Rattle.alphabet.specs.Alphabet.{altdude, character_of, value_of}
use Rattle.alphabet.proofs.Inverse.{value_same, value-le, altdude-alphabet}
use Rattle.altdude.specs.Symbols.{symbol_of, byte_of}
use Rattle.altdude.specs.Encoding.{leading_digits, group_of, item_of, remembered_after, symbols_from, label_of}
use Rattle.altdude.specs.Decoding.{is_readable, text_from, text_of}
use Rattle.altdude.specs.Marks.{ends_item, items_ended, marked_byte, marked, shows_mark, marks_of, small_but_last}
use Rattle.altdude.proofs.Digits.{digits-ind}
use Rattle.altdude.proofs.MarkLaws.{marked-zeros, marks-as-points}
use Rattle.altdude.proofs.Steps.{readable-low, readable-hyphen, readable-high, text-low, text-hyphen, text-high, text-nil}
use Rattle.altdude_facts.proofs.Bytes.{hyphen-symbol, hyphen-byte, keeps-symbol, symbol-byte}

-- a byte ends an item exactly if its symbol is below 16, or 45
ends-symbol : (b : ℕ) → ends_item b ≡ (ltb (symbol_of b) 16 || eqb (symbol_of b) 45)
unfolding ends_item symbol_of
ends-symbol b =
    cases (eqb b 45)
    (λ e. rw e)
    (λ e. rw (e, ne_eqb (value_of altdude b) 45 (λ q. omega (arith, value-le altdude altdude-alphabet b))) (sym (or-false (ltb (value_of altdude b) 16))))

-- by what a byte is: the last of a group, a hyphen, or neither
by_byte {ℓ} : {A : Type ℓ} (b : ℕ) → (symbol_of b < 16 → ends_item b ≡ true → A) → (b ≡ 45 → A) → (16 ≤ symbol_of b → (symbol_of b ≡ 45 → ⊥) → ends_item b ≡ false → A) → A
by_byte b last hyphen other =
    by-lt (symbol_of b) 16
    (λ h. last h (ends-symbol b ∙ rw (lt-ltb _ _ h)))
    (λ h. cases (eqb (symbol_of b) 45)
    (λ e. hyphen (eqb-true b 45 (sym (keeps-symbol b) ∙ e)))
    (λ e. other h (eqb-false _ _ e) (ends-symbol b ∙ rw (le-ltb _ _ h, e))))

-- a byte ends an item in either case
ends-small : (b : ℕ) → ends_item (small b) ≡ ends_item b
unfolding ends_item
ends-small b = rw (small-keeps-hyphen b, value_same altdude (small b) b (small-small b))

ends-case : (a b : ℕ) → small a ≡ small b → ends_item a ≡ ends_item b
ends-case a b e = sym (ends-small a) ∙ ap ends_item e ∙ ends-small b

-- a mark changes nothing but case
small-marked : (mark b : ℕ) → small (marked_byte mark b) ≡ small b
unfolding marked_byte
small-marked mark b = cases (both (ends_item b) (eqb mark 1)) (λ e. rw e (small-of-capital b)) (λ e. rw e)

pub marked-small : (ms l : List ℕ) → map small (marked ms l) ≡ map small l
unfolding marked
marked-small ms [] = refl
marked-small ms (b ∷ l) = ap₂ ◌∷◌ (small-marked (at ms 0) b) (marked-small (drop (items_ended b) ms) l)

-- marks of 0 change nothing
pub marked-none : (n : ℕ) (l : List ℕ) → marked (no_marks n) l ≡ l
unfolding no_marks
marked-none n l = marked-zeros (no_marks n) l (row-tabulate n (λ _. 0) (λ i h. refl))

-- the mark that a byte shows that ends an item
abbrev mark_of : ℕ → ℕ
mark_of b = pick {A = ℕ} (is_capital b) 1 0

-- what a byte does to the marks of a label, by whether it ends an item
module _ (b : ℕ) (l : List ℕ) where
  shows-last : ends_item b ≡ true → marks_of (b ∷ l) ≡ mark_of b ∷ marks_of l
  unfolding marks_of shows_mark
  shows-last e = rw e

  shows-none : ends_item b ≡ false → marks_of (b ∷ l) ≡ marks_of l
  unfolding marks_of shows_mark
  shows-none e = rw e

  marked-last : (ms : List ℕ) → ends_item b ≡ true → marked ms (b ∷ l) ≡ marked_byte (at ms 0) b ∷ marked (drop 1 ms) l
  unfolding marked items_ended
  marked-last ms e = rw e

  marked_other : (ms : List ℕ) → ends_item b ≡ false → marked ms (b ∷ l) ≡ b ∷ marked ms l
  unfolding marked items_ended marked_byte both
  marked_other ms e = rw e

-- a hyphen ends an item, and shows no mark
hyphen-ends : ends_item 45 ≡ true
unfolding ends_item
hyphen-ends = refl

shows-hyphen : (l : List ℕ) → marks_of (45 ∷ l) ≡ 0 ∷ marks_of l
shows-hyphen l = shows-last 45 l hyphen-ends ∙ rw (capital-below 45 (omega arith))

-- a mark of 0 may be on any point, and the mark that a byte shows on any but a hyphen
may-zero : (p : ℕ) → may_mark true p 0 ≡ true
unfolding may_mark
may-zero p = refl

may-show : (p b : ℕ) → eqb p 45 ≡ false → may_mark true p (mark_of b) ≡ true
unfolding may_mark both
may-show p b e = cases (is_capital b) (λ c. rw (c, e)) (λ c. rw c)

-- the marks of a label that may be read are lawful: no group gives a hyphen
lawful-from : (m v : ℕ) (l : List ℕ) → is_readable m v (map symbol_of l) ≡ true → LawfulMarks true (text_from m v (map symbol_of l)) (marks_of l)
lawful-from m v [] r = record { count = marks-as-points m v []; may = λ i h. absurd (omega (arith, ap length (text-nil m v))) }
lawful-from m v (b ∷ l) r =
    by_byte b
    (λ low e.
    let q = sym (readable-low m v (symbol_of b) (map symbol_of l) low) ∙ r in
    rw (shows-last b l e, text-low m v (symbol_of b) (map symbol_of l) low)
    (lawful-more true _ _ _ _ (may-show _ b (not-true _ (both_right _ _ (both_left _ _ q)))) (lawful-from (bit_xor m (v * 16 + symbol_of b)) 0 l (both_right _ _ q))))
    (λ e.
    let q = sym (readable-hyphen m v (map symbol_of l)) ∙ rw (e, hyphen-symbol) at r in
    rw (e, hyphen-symbol, shows-hyphen l, text-hyphen m v (map symbol_of l)) (lawful-more true 45 0 _ _ (may-zero 45) (lawful-from m 0 l (both_right _ _ q))))
    (λ high no e.
    let q = sym (readable-high m v (symbol_of b) (map symbol_of l) high no) ∙ r in
    rw (shows-none b l e, text-high m v (symbol_of b) (map symbol_of l) high no) (lawful-from m (v * 16 + (symbol_of b - 16)) l (both_right _ _ q)))

pub lawful-marks : (l : List ℕ) → is_readable 96 0 (map symbol_of l) ≡ true → LawfulMarks true (text_of l) (marks_of l)
unfolding text_of
lawful-marks l r = lawful-from 96 0 l r

-- a label with every character made small but the last of each group has the same marks
pub kept-marks : (l : List ℕ) → marks_of (small_but_last l) ≡ marks_of l
unfolding small_but_last marks_of
kept-marks [] = refl
kept-marks (b ∷ l) =
    cases (ends_item b)
    (λ e. rw e (shows-last b (small_but_last l) e ∙ ap (λ (ms : List ℕ). mark_of b ∷ ms) (kept-marks l) ∙ sym (shows-last b l e)))
    (λ e. rw e (shows-none (small b) (small_but_last l) (ends-small b ∙ e) ∙ kept-marks l ∙ sym (shows-none b l e)))

-- and is its small form with those marks
mark-back : (b : ℕ) → ends_item b ≡ true → marked_byte (mark_of b) (small b) ≡ b
unfolding marked_byte both
mark-back b e = rw (ends-small b, e) (cases (is_capital b) (λ c. rw c (capital-of-form b c)) (λ c. rw c (small-other b c)))

pub small-but-marked : (l : List ℕ) → small_but_last l ≡ marked (marks_of l) (map small l)
unfolding small_but_last marked
small-but-marked [] = refl
small-but-marked (b ∷ l) =
    cases (ends_item b)
    (λ e.
    rw (e, shows-last b l e)
    (sym (marked-last (small b) (map small l) (mark_of b ∷ marks_of l) (ends-small b ∙ e) ∙ ap₂ ◌∷◌ (mark-back b e) (sym (small-but-marked l)))))
    (λ e.
    rw (e, shows-none b l e)
    (sym (marked_other (small b) (map small l) _ (ends-small b ∙ e) ∙ ap (λ (k : List ℕ). small b ∷ k) (sym (small-but-marked l)))))

-- so it differs from the label at most in case
pub small-but-last : (l : List ℕ) → map small (small_but_last l) ≡ map small l
small-but-last l = ap (map small) (small-but-marked l) ∙ marked-small (marks_of l) (map small l) ∙ all_small l

-- the bytes of a group: those of leading digits end nothing, that of the last digit ends an item and is a small letter
leading-ends : (d : ℕ) → d < 16 → ends_item (byte_of (16 + d)) ≡ false
leading-ends d h =
    ends-symbol (byte_of (16 + d))
    ∙ rw (symbol-byte (16 + d) (inl (omega arith)), le-ltb (16 + d) 16 (omega arith), ne_eqb (16 + d) 45 (λ q. omega arith))

last-ends : (d : ℕ) → d < 16 → ends_item (byte_of d) ≡ true
last-ends d h = ends-symbol (byte_of d) ∙ rw (symbol-byte d (inl (omega arith)), lt-ltb d 16 h)

last_letter : (d : ℕ) → d < 16 → within 97 122 (byte_of d) ≡ true
unfolding every both within byte_of character_of altdude
last_letter d h = at_each 16 (λ k. within 97 122 (byte_of k)) refl d h

-- a byte with its mark shows it: a mark of 0 if the byte is no capital, a mark of 1 if it is a small letter
zero-shown : (mark b : ℕ) → mark ≡ 0 → is_capital b ≡ false → mark_of (marked_byte mark b) ≡ mark
unfolding marked_byte
zero-shown mark b z c = rw (z, both_false, c)

one-shown : (mark b : ℕ) → mark ≡ 1 → ends_item b ≡ true → within 97 122 b ≡ true → mark_of (marked_byte mark b) ≡ mark
unfolding marked_byte both
one-shown mark b o e w =
    let low = within_low 97 122 b w in
    let high = within-high 97 122 b w in
    rw (o, e, capital-of-small b low high, capital-inside (b - 32) (omega arith) (omega arith))

item-shown : (mark b : ℕ) (ms l : List ℕ) → ends_item b ≡ true → mark_of (marked_byte mark b) ≡ mark → marks_of (marked ms l) ≡ ms → marks_of (marked (mark ∷ ms) (b ∷ l)) ≡ mark ∷ ms
item-shown mark b ms l e shown rest =
    ap marks_of (marked-last b l (mark ∷ ms) e)
    ∙ shows-last (marked_byte mark b) (marked ms l) (ends-case (marked_byte mark b) b (small-marked mark b) ∙ e)
    ∙ ap₂ ◌∷◌ shown rest

-- a group shows what its last byte does
group-shown : (ms : List ℕ) (x : ℕ) (rest : List ℕ) → marks_of (marked ms (map byte_of (group_of x rest))) ≡ marks_of (marked ms (map byte_of (x % 16 ∷ rest)))
unfolding group_of
group-shown ms x rest =
    digits-ind (λ _ l. marks_of (marked ms (map byte_of l)))
    (λ y l h. let e = leading-ends (y % 16) (omega arith) in ap marks_of (marked_other (byte_of (16 + y % 16)) (map byte_of l) ms e) ∙ shows-none _ (marked ms (map byte_of l)) e)
    (x / 16) (x % 16 ∷ rest)

-- what is written of a text with lawful marks shows them
shown-from : (m : ℕ) (t ms : List ℕ) → LawfulMarks true t ms → marks_of (marked ms (map byte_of (symbols_from m t))) ≡ ms
unfolding symbols_from item_of remembered_after marks_of marked
shown-from m [] [] lawful = refl
shown-from m [] (k ∷ ms) lawful = absurd (omega (arith, lawful.count))
shown-from m (p ∷ t) [] lawful = absurd (omega (arith, lawful.count))
shown-from m (p ∷ t) (k ∷ ms) lawful =
    let may = mark-is true p k (lawful.may 0 (omega arith)) in
    let tail = lawful-tail true p k t ms lawful in
    cases (eqb p 45)
    (λ e.
    let z : k ≡ 0 = ⊎_elim (λ z. z) (λ (_, _, other). absurd (other (eqb-true p 45 e))) may in
    rw (e, hyphen-byte) (item-shown k 45 ms (map byte_of (symbols_from m t)) hyphen-ends (zero-shown k 45 z (capital-below 45 (omega arith))) (shown-from m t ms tail)))
    (λ e.
    let x = bit_xor p m in
    let low : x % 16 < 16 = omega arith in
    let letter = last_letter (x % 16) low in
    rw e
    (group-shown (k ∷ ms) x (symbols_from p t)
    ∙ item-shown k (byte_of (x % 16)) ms (map byte_of (symbols_from p t)) (last-ends (x % 16) low)
    (⊎_elim (λ z. zero-shown k _ z (capital-above _ (omega (arith, within_low 97 122 _ letter)))) (λ (_, o, _). one-shown k _ o (last-ends (x % 16) low) letter) may)
    (shown-from p t ms tail)))

pub shown-marks : (t ms : List ℕ) → LawfulMarks true t ms → marks_of (marked ms (label_of t)) ≡ ms
unfolding label_of
shown-marks t ms lawful = shown-from 96 t ms lawful

-- marks item by item: a hyphen stays, and of a group the last byte becomes a capital if the mark is 1
pub marked-hyphen : (ms l : List ℕ) → marked ms (45 ∷ l) ≡ 45 ∷ marked (drop 1 ms) l
unfolding marked_byte
marked-hyphen ms l =
    marked-last 45 l ms hyphen-ends
    ∙ ap (λ (b : ℕ). b ∷ marked (drop 1 ms) l) (cases (both (ends_item 45) (eqb (at ms 0) 1)) (λ e. rw e (capital-of-lower 45 (omega arith))) (λ e. rw e))

marked-digits : (ms rest : List ℕ) (f x : ℕ) (high : List ℕ) → marked ms (map byte_of (high ++ rest)) ≡ map byte_of high ++ marked ms (map byte_of rest)
    → marked ms (map byte_of (leading_digits f x (high ++ rest))) ≡ map byte_of (leading_digits f x high) ++ marked ms (map byte_of rest)
unfolding leading_digits
marked-digits ms rest zero x high h = h
marked-digits ms rest (suc f) zero high h = h
marked-digits ms rest (suc f) (suc x) high h =
    let d = suc x % 16 in
    marked-digits ms rest f (suc x / 16) ((16 + d) ∷ high)
    (marked_other (byte_of (16 + d)) (map byte_of (high ++ rest)) ms (leading-ends d (omega arith)) ∙ ap (λ (l : List ℕ). byte_of (16 + d) ∷ l) h)

pub marked-group : (ms : List ℕ) (x : ℕ) (rest : List ℕ) → marked ms (map byte_of (group_of x rest))
    ≡ map byte_of (leading_digits (x / 16) (x / 16) []) ++ (pick (eqb (at ms 0) 1) (capital (byte_of (x % 16))) (byte_of (x % 16)) ∷ marked (drop 1 ms) (map byte_of rest))
unfolding group_of marked_byte both
marked-group ms x rest =
    let e : ends_item (byte_of (x % 16)) ≡ true = last-ends (x % 16) (omega arith) in
    marked-digits ms (x % 16 ∷ rest) (x / 16) (x / 16) [] refl
    ∙ ap (λ (l : List ℕ). map byte_of (leading_digits (x / 16) (x / 16) []) ++ l) (marked-last (byte_of (x % 16)) (map byte_of rest) ms e ∙ rw e)
