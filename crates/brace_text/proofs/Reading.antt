-- What a byte adds to the text, the queue after it, and the text that is still to be stored.
use Prim.Native.Nat.{ℕ, ◌+◌, ◌-◌, ◌*◌, ◌/◌, ◌%◌, ◌^◌, ◌≤◌, ◌<◌}
use mathlib.Core.Path.{◌≡◌, refl, sym, ap, ◌∙◌}
use mathlib.Core.Bool.{Bool, true, false}
use mathlib.Core.List.{List, [], ◌∷◌, ◌++◌}
use lib.Arith.{digits_lt}
use lib.Dec.{eqb, leb, ltb}
use lib.ListN.{length, drop, get_or, length-append, length-drop, drop_of_length-le}
use lib.Pow.{pow-add, pow_pos}
use lib.Seq.{drop-cons}
use borrow.Author.Tests.{eq-eqb, ne_eqb, le-leb, lt-leb, leb-false}
use native.Mathlib.Nat.{mod-lt}
use native.Mathlib.Numerals.{add-one}
use native.Mathlib.Omega.{arith}
use Rattle.basis.specs.Tests.{both}
use Rattle.basis.proofs.Tests.{cases}
use Rattle.basis.proofs.Stores.{Storing, Stored, storing-all, storing-piece, storing-none}
use Rattle.alphabet.specs.Alphabet.{brace}
use Rattle.copying.specs.Symbols.{head_number, quintet_of}
use Rattle.copying.specs.Modes.{is_copied, is_coded, is_second, next_mode}
use Rattle.copying.specs.declared.Mode.{Mode}
use Rattle.copying.specs.declared.Mode.TheVariants.{Coded}
use Rattle.brace_format.specs.declared.style.Style.{Style}
use Rattle.brace_format.specs.declared.style.Style.TheVariants.{HalfRow, Row, Mixed, NoRow}
use Rattle.brace_format.specs.Style.{width_by, unit_of}
use Rattle.brace_text.specs.Decoding.{due_width, is_whole, count_left, value_left, unit_taken, next_count, next_value, adds, text_from, head_length, head_spare, head_style, text_by, kind_of, body_text}
use Rattle.brace_text.specs.Internal.{hyphen_adds}

-- the unit of the first code, if that is whole
module _ (s : Style) (k v w : ℕ) (is : w ≡ due_width s k v) where
  pub taken_none : k < w → unit_taken s k v [] ≡ []
  unfolding unit_taken is_whole
  taken_none h = rw (← is, lt-leb w k h)

  pub taken-some : w ≤ k → (x : ℕ) → x ≡ unit_of s (v / 2 ^ (k - w)) → unit_taken s k v [] ≡ x ∷ []
  unfolding unit_taken is_whole
  taken-some h x e = rw (← is, le-leb w k h, e)

-- a hyphen is added if it is the second of a pair
pub hyphen-some : (m : Mode) (b : Bool) → b ≡ is_second m → b ≡ true → hyphen_adds m ≡ 45 ∷ []
unfolding hyphen_adds
hyphen-some m b e f = rw (sym e ∙ f)

pub hyphen-none : (m : Mode) (b : Bool) → b ≡ is_second m → b ≡ false → hyphen_adds m ≡ []
unfolding hyphen_adds
hyphen-none m b e f = rw (sym e ∙ f)

-- what a byte does: a hyphen, a copied byte, a coded one
module _ (s : Style) (m : Mode) (k v b : ℕ) where
  pub adds-hyphen : b ≡ 45 → adds s m k v b [] ≡ hyphen_adds m
  unfolding adds hyphen_adds
  adds-hyphen e = rw (eq-eqb b 45 e)

  pub next-hyphen : b ≡ 45 → (k ≡ next_count s m k v b) × (v ≡ next_value s m k v b)
  unfolding next_count next_value is_coded both
  next-hyphen e = rw (eq-eqb b 45 e) (refl, refl)

  module _ (n : b ≡ 45 → ⊥) (c : Bool) (ec : c ≡ is_copied m) where
    pub adds-copied : c ≡ true → adds s m k v b [] ≡ b ∷ []
    unfolding adds
    adds-copied e = rw (ne_eqb b 45 n, sym ec ∙ e)

    pub next-copied : c ≡ true → (k ≡ next_count s m k v b) × (v ≡ next_value s m k v b)
    unfolding next_count next_value is_coded both
    next-copied e = rw (ne_eqb b 45 n, sym ec ∙ e) (refl, refl)

    pub adds-quintet : c ≡ false → (q : ℕ) → q ≡ quintet_of brace b → adds s m k v b [] ≡ unit_taken s (k + 5) (v * 32 + q) []
    unfolding adds
    adds-quintet e q eq = rw (ne_eqb b 45 n, sym ec ∙ e, eq)

    pub next-quintet : c ≡ false → (q : ℕ) → q ≡ quintet_of brace b → (x y : ℕ)
        → (x ≡ count_left s (k + 5) (v * 32 + q)) × (y ≡ value_left s (k + 5) (v * 32 + q)) → (x ≡ next_count s m k v b) × (y ≡ next_value s m k v b)
    unfolding next_count next_value is_coded both
    next-quintet e q eq x y p = rw (ne_eqb b 45 n, sym ec ∙ e, ← eq) p

  -- what stands before the rest does not depend on it, and is one unit at most
  adds-append : (rest : List ℕ) → adds s m k v b rest ≡ adds s m k v b [] ++ rest
  unfolding adds unit_taken
  adds-append rest =
      cases (eqb b 45)
      (λ e. cases (is_second m) (λ f. rw (e, f)) (λ f. rw (e, f)))
      (λ e. cases (is_copied m)
      (λ f. rw (e, f))
      (λ f. cases (is_whole s (k + 5) (v * 32 + quintet_of brace b)) (λ g. rw (e, f, g)) (λ g. rw (e, f, g))))

  adds-few : length (adds s m k v b []) ≤ 1
  unfolding adds unit_taken
  adds-few =
      cases (eqb b 45)
      (λ e. cases (is_second m) (λ f. rw (e, f) (omega arith)) (λ f. rw (e, f) (omega arith)))
      (λ e. cases (is_copied m)
      (λ f. rw (e, f) (omega arith))
      (λ f. cases (is_whole s (k + 5) (v * 32 + quintet_of brace b)) (λ g. rw (e, f, g) (omega arith)) (λ g. rw (e, f, g) (omega arith))))

-- a text has no more units than its bytes
text-few : (s : Style) (m : Mode) (k v : ℕ) (l : List ℕ) → length (text_from s m k v l) ≤ length l
unfolding text_from
text-few s m k v [] = omega arith
text-few s m k v (b ∷ l) =
    let rest = text_from s (next_mode m b) (next_count s m k v b) (next_value s m k v b) l in
    omega (arith, ap length (adds-append s m k v b rest), length-append (adds s m k v b []) rest, adds-few s m k v b, text-few s (next_mode m b) (next_count s m k v b) (next_value s m k v b) l)

pub body-few : (body : List ℕ) → length (body_text body) ≤ length body
unfolding body_text text_by
body-few body =
    let kind = kind_of body in
    let x = head_number brace (head_length kind) 0 body in
    omega (arith, text-few (head_style kind x) Coded (head_spare kind) (x % 2 ^ head_spare kind) (drop (head_length kind) body), length-drop (head_length kind) body)

-- every code has 7 to 18 bits
width-bounds : (s : Style) (top : ℕ) → (7 ≤ width_by s top) × (width_by s top ≤ 18)
unfolding width_by
width-bounds (HalfRow h) top = (omega arith, omega arith)
width-bounds (Row r) top = (omega arith, omega arith)
width-bounds (Mixed h) top =
    cases (ltb top 2)
    (λ e. rw e (omega arith, omega arith))
    (λ e. cases (eqb top 2) (λ f. rw (e, f) (omega arith, omega arith)) (λ f. rw (e, f) (omega arith, omega arith)))
width-bounds NoRow top = (omega arith, omega arith)

quintet-lt : (b : ℕ) → quintet_of brace b < 32
unfolding quintet_of
quintet-lt b = omega arith

-- the queue stays within 17 bits
left-fits : (s : Style) (k v : ℕ) → k ≤ 22 → v < 2 ^ k → (count_left s k v ≤ 17) × (value_left s k v < 2 ^ count_left s k v)
unfolding count_left value_left is_whole due_width
left-fits s k v h g =
    let b = width-bounds s (v / 2 ^ (k - 2)) in
    cases (leb (width_by s (v / 2 ^ (k - 2))) k)
    (λ e. rw e (omega (arith, b.0), mod-lt v (pow_pos (k - width_by s (v / 2 ^ (k - 2))))))
    (λ e. rw e (omega (arith, b.1, leb-false (width_by s (v / 2 ^ (k - 2))) k e), g))

pub next_fits : (s : Style) (m : Mode) (k v b : ℕ) → k ≤ 17 → v < 2 ^ k → (next_count s m k v b ≤ 17) × (next_value s m k v b < 2 ^ next_count s m k v b)
unfolding next_count next_value
next_fits s m k v b h g =
    cases (is_coded m b)
    (λ e. rw e (left-fits s (k + 5) (v * 32 + quintet_of brace b) (omega arith) (rw (pow-add 2 k 5) (digits_lt g (quintet-lt b)))))
    (λ e. rw e (h, g))

-- of a whole text that of the bytes from i on is still to be stored
pub record Getting (whole bytes old units : List ℕ) (s : Style) (m : Mode) (count value at i : ℕ) : Type 0 where
  pub storing : Storing old whole units at (text_from s m count value (drop i bytes))
  pub behind : at ≤ i
  pub inside : at ≤ length bytes

pub getting-start : (bytes old : List ℕ) (s : Style) (m : Mode) (count value : ℕ) → Getting (text_from s m count value bytes) bytes old old s m count value 0 0
getting-start bytes old s m count value =
    record { storing = storing-all old (text_from s m count value bytes); behind = omega arith; inside = omega arith }

module _ {whole bytes old units : List ℕ} {s : Style} {m : Mode} {count value at i : ℕ} (p : Getting whole bytes old units s m count value at i) where
  pub unit-fits : i < length bytes → length bytes ≤ length old → at < length units
  unit-fits h g = omega (arith, p.behind, p.storing.long)

  split-byte : i < length bytes → text_from s m count value (drop i bytes)
      ≡ adds s m count value (get_or bytes i 0) []
      ++ text_from s (next_mode m (get_or bytes i 0)) (next_count s m count value (get_or bytes i 0)) (next_value s m count value (get_or bytes i 0)) (drop (i + 1) bytes)
  unfolding text_from
  split-byte h = rw (drop-cons bytes i 0 h, add-one) (adds-append s m count value (get_or bytes i 0) _)

  pub getting-turn : i < length bytes → (at' : ℕ) (units' : List ℕ) (s' : Style) (m' : Mode) (count' value' : ℕ)
      → Stored units at (adds s m count value (get_or bytes i 0) []) units' at'
      → s' ≡ s → m' ≡ next_mode m (get_or bytes i 0)
      → (count' ≡ next_count s m count value (get_or bytes i 0)) × (value' ≡ next_value s m count value (get_or bytes i 0))
      → Getting whole bytes old units' s' m' count' value' at' (i + 1)
  getting-turn h at' units' s' m' count' value' q es em ec =
      record {
        storing =
            storing-piece p.storing (split-byte h ∙ rw (es, em, ec.0, ec.1)) q;
        behind = omega (arith, q.count, adds-few s m count value (get_or bytes i 0), p.behind);
        inside = omega (arith, q.count, adds-few s m count value (get_or bytes i 0), p.behind);
      }

  pub getting-end : length bytes ≤ i → length bytes ≤ length old → (at ≡ length whole) × (units ≡ whole ++ drop (length whole) old)
  unfolding text_from
  getting-end h g =
      let e : text_from s m count value (drop i bytes) ≡ [] = rw drop_of_length-le in
      storing-none _ _ _ _ _ p.storing e (omega (arith, p.storing.count, ap length e, p.inside))
