-- One code: the bounds of its width, the bits ahead of it, and its quintets as they are stored.
use Prim.Native.Nat.{ℕ, zero, suc, ◌+◌, ◌-◌, ◌*◌, ◌/◌, ◌%◌, ◌^◌, ◌≤◌, ◌<◌}
use mathlib.Core.Path.{◌≡◌, refl, sym, ap, ◌∙◌}
use mathlib.Core.Bool.{Bool, true, false, not}
use mathlib.Core.List.{List, [], ◌∷◌, ◌++◌}
use lib.Dec.{eqb}
use lib.ListN.{length, drop, get_or, drop_of_length-le}
use lib.Pow.{pow_mono}
use lib.Seq.{drop-cons}
use borrow.Author.Tests.{not-true, not-false}
use native.Mathlib.Nat.{mod-eq_of_lt, mul-le-mul, one-mul}
use native.Mathlib.Numerals.{add-one}
use native.Mathlib.Omega.{arith}
use Rattle.basis.proofs.Tests.{cases}
use Rattle.ascii.specs.Ldh.{is_ldh}
use Rattle.copying.specs.Symbols.{quintets}
use Rattle.brace_format.specs.declared.style.Style.{Style}
use Rattle.brace_format.specs.declared.style.Style.TheVariants.{HalfRow, Row, Mixed, NoRow}
use Rattle.brace_format.specs.Style.{other_half, head_width, width_of, code_of}
use Rattle.brace_symbols.specs.Encoding.{quintet_count, spare_count, ahead, code_quintets}

-- every code has 7 to 18 bits
pub width_few : (s : Style) (u : ℕ) → (7 ≤ width_of s u) × (width_of s u ≤ 18)
unfolding width_of
width_few (HalfRow h) u = (omega arith, omega arith)
width_few (Row r) u = (omega arith, omega arith)
width_few (Mixed h) u =
    cases (eqb (u / 128) h)
    (λ e. rw e (omega arith, omega arith))
    (λ n. cases (eqb (u / 128) (other_half h)) (λ e. rw (n, e) (omega arith, omega arith)) (λ e. rw (n, e) (omega arith, omega arith)))
width_few NoRow u = (omega arith, omega arith)

-- the width of a unit's code, as it is answered
pub width-over : (s : Style) (u r k : ℕ) → r ≡ width_of s u → k ≤ 4 → k ≤ r
width-over s u r k e h = omega (arith, (width_few s u).0)

pub width-under : (s : Style) (u r k : ℕ) → r ≡ width_of s u → r - k < 32
width-under s u r k e = omega (arith, (width_few s u).1)

pub width-top : (s : Style) (u r : ℕ) → r ≡ width_of s u → r ≤ 18
width-top s u r e = omega (arith, (width_few s u).1)

-- the head has 2 to 11 bits
pub head_few : (s : Style) → (2 ≤ head_width s) × (head_width s ≤ 11)
unfolding head_width
head_few (HalfRow h) = (omega arith, omega arith)
head_few (Row r) = (omega arith, omega arith)
head_few (Mixed h) = (omega arith, omega arith)
head_few NoRow = (omega arith, omega arith)

-- the bits ahead from an index on
module _ (s : Style) (k i : ℕ) (t : List ℕ) where
  ahead-ldh : i < length t → is_ldh (get_or t i 0) ≡ true → ahead s k (drop i t) ≡ ahead s k (drop (i + 1) t)
  unfolding ahead
  ahead-ldh h e = rw (drop-cons t i 0 h, e, add-one)

  ahead-code : i < length t → is_ldh (get_or t i 0) ≡ false → ahead s k (drop i t) ≡ code_of s (get_or t i 0) / 2 ^ (width_of s (get_or t i 0) - k)
  unfolding ahead
  ahead-code h e = rw (drop-cons t i 0 h, e)

  ahead-end : length t ≤ i → ahead s k (drop i t) ≡ 0
  unfolding ahead
  ahead-end h = rw drop_of_length-le

-- a walk that has come to i, over LDH only
pub record Walked (s : Style) (k : ℕ) (t : List ℕ) (i : ℕ) : Type 0 where
  pub same : ahead s k t ≡ ahead s k (drop i t)

module _ {s : Style} {k i : ℕ} {t : List ℕ} (inv : Walked s k t i) where
  pub found-code : i < length t → (b : Bool) → b ≡ is_ldh (get_or t i 0) → not b ≡ true → (w c : ℕ) → w ≡ width_of s (get_or t i 0) → c ≡ code_of s (get_or t i 0)
      → c / 2 ^ (w - k) ≡ ahead s k t
  found-code h b eb n w c ew ec = sym (inv.same ∙ ahead-code s k i t h (sym eb ∙ not-true b n) ∙ rw (ew, ec))

  pub passed-ldh : i < length t → (b : Bool) → b ≡ is_ldh (get_or t i 0) → not b ≡ false → Walked s k t (i + 1)
  passed-ldh h b eb y = record { same = inv.same ∙ ahead-ldh s k i t h (sym eb ∙ not-false b y) }

  pub found_none : length t ≤ i → 0 ≡ ahead s k t
  found_none h = sym (inv.same ∙ ahead-end s k i t h)

-- the first of so many quintets, before the others; and none
pub next-quintet : (n x r : ℕ) → 0 < n → r ≡ x / 2 ^ (5 * (n - 1)) % 32 → quintets n x [] ≡ (r ∷ []) ++ quintets (n - 1) x []
unfolding quintets
next-quintet zero x r h e = absurd (omega arith)
next-quintet (suc n) x r h e =
    let q : suc n - 1 ≡ n = omega arith in
    rw (e, q)

pub no-quintets : (x n : ℕ) → n ≤ 0 → quintets n x [] ≡ []
unfolding quintets
no-quintets x zero h = refl
no-quintets x (suc n) h = absurd (omega arith)

module _ (k w sp : ℕ) (few : sp ≤ 4) (is : sp ≡ spare_count k w) where
  power_le : 2 ^ sp ≤ 16
  power_le = pow_mono few

  shift_is : 1 * 2 ^ sp % 4294967296 ≡ 2 ^ sp
  shift_is = ap (λ (x : ℕ). x % 4294967296) (one-mul (2 ^ sp)) ∙ mod-eq_of_lt (omega (arith, power_le))

  pub shifted-le : (c : ℕ) → c < 262144 → c * (1 * 2 ^ sp % 4294967296) ≤ 262144 * 16
  shifted-le c h = let l : c ≤ 262144 = omega arith in rw shift_is (mul-le-mul l power_le)

  -- the quintets of a code, by the numbers as they are answered
  pub code_is : (s : Style) (c a n : ℕ) (rest : List ℕ) → n ≡ quintet_count k w → a ≡ ahead s sp rest
      → code_quintets s k w c rest [] ≡ quintets n (c * (1 * 2 ^ sp % 4294967296) + a) []
  unfolding code_quintets
  code_is s c a n rest en ea = rw (shift_is, ea, is, en)
