-- When a row ends with the signature.
use Prim.Native.Nat.{ℕ, suc, ◌-◌, ◌≤◌, ◌<◌}
use mathlib.Core.Path.{◌≡◌, refl, sym, ap, ◌∙◌}
use mathlib.Core.Bool.{Bool, true, false}
use mathlib.Core.List.{List, [], ◌∷◌, map}
use lib.Dec.{eqb, ltb}
use lib.ListN.{length, drop, get_or, length-drop, length-map, drop_of_length-le}
use lib.Seq.{drop-cons}
use borrow.Author.Tests.{eq-eqb, ne_eqb, ltb-true}
use native.Mathlib.Omega.{arith}
use Rattle.std.specs.List.{slice_index_or}
use Rattle.std.proofs.lemmas.List.{get_or-map}
use Rattle.basis.specs.Tests.{both, every}
use Rattle.basis.specs.Rows.{at}
use Rattle.basis.proofs.Tests.{both_false, at_each, first-none}
use Rattle.ascii.specs.Case.{small}
use Rattle.ascii.proofs.Case.{small-above}
use Rattle.alphabet.specs.Alphabet.{brace, value_of}
use Rattle.copying.specs.Symbols.{is_for, are_for}
use Rattle.brace_format.specs.Signature.{signature, is_signed}

-- a unit that is no byte has no value
characters-below : every 32 (λ i. ltb (at brace i) 256) ≡ true
unfolding every both brace
characters-below = refl

pub value-beyond : (u : ℕ) → 255 < u → 32 ≡ value_of brace u
unfolding value_of brace
value-beyond u h =
    sym (first-none 32 (λ i. eqb (small u) (at brace i))
    (λ j l. ne_eqb (small u) (at brace j) (λ e. omega (arith, small-above u (omega arith), ltb-true (at brace j) 256 (at_each 32 (λ i. ltb (at brace i) 256) characters-below j l)))))

-- rows of different length are not for each other
unequal : (alphabet symbols bytes : List ℕ) → (length symbols ≡ length bytes → ⊥) → are_for alphabet symbols bytes ≡ false
unfolding are_for
unequal alphabet [] [] n = absurd (n refl)
unequal alphabet [] (b ∷ bytes) n = refl
unequal alphabet (s ∷ symbols) [] n = refl
unequal alphabet (s ∷ symbols) (b ∷ bytes) n = rw (unequal alphabet symbols bytes (λ e. n (ap suc e))) (both_false _)

-- fewer than four are not signed
signed-short : (row : List ℕ) → length row < 4 → false ≡ is_signed row
unfolding is_signed signature
signed-short row h = sym (unequal brace (45 ∷ 6 ∷ 22 ∷ 7 ∷ []) (drop (length row - 4) row) (λ e. omega (arith, length-drop (length row - 4) row)))

-- the last four of a row
module _ (row : List ℕ) (h : 4 ≤ length row) where
  last-four : drop (length row - 4) row ≡ get_or row (length row - 4) 0 ∷ get_or row (length row - 3) 0 ∷ get_or row (length row - 2) 0 ∷ get_or row (length row - 1) 0 ∷ []
  last-four =
      let a : suc (length row - 4) ≡ length row - 3 = omega arith in
      let b : suc (length row - 3) ≡ length row - 2 = omega arith in
      let c : suc (length row - 2) ≡ length row - 1 = omega arith in
      let d : suc (length row - 1) ≡ length row = omega arith in
      let z : drop (length row) row ≡ [] = drop_of_length-le row {i = length row} (omega arith) in
      rw (drop-cons row (length row - 4) 0 (omega arith), a, drop-cons row (length row - 3) 0 (omega arith), b, drop-cons row (length row - 2) 0 (omega arith), c, drop-cons row (length row - 1) 0 (omega arith), d, z)

  signed-four : (r : Bool) → r ≡ are_for brace signature (get_or row (length row - 4) 0 ∷ get_or row (length row - 3) 0 ∷ get_or row (length row - 2) 0 ∷ get_or row (length row - 1) 0 ∷ []) → r ≡ is_signed row
  unfolding is_signed
  signed-four r e = e ∙ ap (are_for brace signature) (sym last-four)

-- the numbers of a row's elements
module _ {A : Type 0} (number : A → ℕ) (row : List A) where
  pub signed-few : length row < 4 → false ≡ is_signed (map number row)
  signed-few h = signed-short (map number row) (rw length-map h)

  -- a is the number of the element at an index
  number_at : (i : ℕ) (x : A) (a : ℕ) → i < length row → x ≡ slice_index_or row i x → a ≡ number x → a ≡ get_or (map number row) i 0
  number_at i x a h e q = q ∙ ap number e ∙ sym (get_or-map number row i x 0 h)

  pub signed-last : 4 ≤ length row → (r : Bool) (w x y z : A) (a b c d : ℕ)
      → w ≡ slice_index_or row (length row - 4) w → a ≡ number w
      → x ≡ slice_index_or row (length row - 3) x → b ≡ number x
      → y ≡ slice_index_or row (length row - 2) y → c ≡ number y
      → z ≡ slice_index_or row (length row - 1) z → d ≡ number z
      → r ≡ are_for brace signature (a ∷ b ∷ c ∷ d ∷ []) → r ≡ is_signed (map number row)
  signed-last h r w x y z a b c d iw nw ix nx iy ny iz nz e =
      let ea : a ≡ get_or (map number row) (length row - 4) 0 = number_at _ w a (omega arith) iw nw in
      let eb : b ≡ get_or (map number row) (length row - 3) 0 = number_at _ x b (omega arith) ix nx in
      let ec : c ≡ get_or (map number row) (length row - 2) 0 = number_at _ y c (omega arith) iy ny in
      let ed : d ≡ get_or (map number row) (length row - 1) 0 = number_at _ z d (omega arith) iz nz in
      signed-four (map number row) (rw length-map h) r (rw (length-map, ← ea, ← eb, ← ec, ← ed) e)

pub both-same : (b : Bool) → both b true ≡ b
unfolding both
both-same true = refl
both-same false = refl

-- the signature one by one
module _ (a b c d : ℕ) where
  signature-is : are_for brace signature (a ∷ b ∷ c ∷ d ∷ []) ≡ both (eqb a 45) (both (eqb (value_of brace b) 6) (both (eqb (value_of brace c) 22) (eqb (value_of brace d) 7)))
  unfolding are_for is_for signature
  signature-is = rw both-same

  pub no-hyphen : (a ≡ 45 → ⊥) → false ≡ are_for brace signature (a ∷ b ∷ c ∷ d ∷ [])
  unfolding both
  no-hyphen n = rw (signature-is, ne_eqb a 45 n)

  module _ (hyphen : a ≡ 45) (x : ℕ) (ex : x ≡ value_of brace b) where
    pub second-differs : (x ≡ 6 → ⊥) → false ≡ are_for brace signature (a ∷ b ∷ c ∷ d ∷ [])
    unfolding both
    second-differs n = rw (signature-is, eq-eqb a 45 hyphen, ← ex, ne_eqb x 6 n)

    module _ (six : x ≡ 6) (y : ℕ) (ey : y ≡ value_of brace c) where
      pub third-differs : (y ≡ 22 → ⊥) → false ≡ are_for brace signature (a ∷ b ∷ c ∷ d ∷ [])
      unfolding both
      third-differs n = rw (signature-is, eq-eqb a 45 hyphen, ← ex, eq-eqb x 6 six, ← ey, ne_eqb y 22 n)

      pub fourth-decides : y ≡ 22 → (z : ℕ) → z ≡ value_of brace d → eqb z 7 ≡ are_for brace signature (a ∷ b ∷ c ∷ d ∷ [])
      unfolding both
      fourth-decides e z ez = rw (signature-is, eq-eqb a 45 hyphen, ← ex, eq-eqb x 6 six, ← ey, eq-eqb y 22 e, ← ez)

-- what `is_signature` needs
pub ruleset signature_rules = (no-hyphen, second-differs, third-differs, fourth-decides)

-- what `value_of` needs
pub ruleset value_rules = (value-beyond)
