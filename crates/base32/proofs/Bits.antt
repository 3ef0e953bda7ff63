-- Laws on bits, over any widths: numbers and their bits, rows and their bits, rows regrouped there and back, and windows.
use Prim.Native.Nat.{ℕ, zero, suc, ◌+◌, ◌-◌, ◌*◌, ◌/◌, ◌%◌, ◌^◌, ◌≤◌, ◌<◌}
use mathlib.Core.Path.{◌≡◌, refl, sym, ap, ap₂, ◌∙◌, fun_ext}
use mathlib.Core.Bool.{true}
use lib.Arith.{digits_div, digits_mod}
use lib.Dec.{eqb}
use lib.Pow.{pow_pos, shr-shr}
use borrow.Author.Tests.{eq-eqb, ne_eqb, eqb-true}
use native.Mathlib.Nat.{pow-suc, add-zero, add-suc, mul_assoc, mul-add, mul_comm, div-add-mod, mod-lt, mul-add-div, mul-add-mod_self_left, div-eq_of_lt, mod-eq_of_lt, zero-add, zero-mul, zero-div, div-one, le-div_iff_mul-le, suc-mul}
use native.Mathlib.Omega.{arith}
use Rattle.basis.specs.Tests.{every}
use Rattle.basis.proofs.Tests.{cases, by-lt, true-not-false, at_each, each_at}
use Rattle.base32.specs.Bits.{bit_of, from_bits, row_bit, group, regroup}

-- bits that agree make the same number
pub from_bits-same : (w : ℕ) (f g : ℕ → ℕ) → ((j : ℕ) → j < w → f j ≡ g j) → from_bits w f ≡ from_bits w g
unfolding from_bits
from_bits-same zero f g e = refl
from_bits-same (suc w) f g e = omega (arith, from_bits-same w f g (λ j h. e j (omega arith)), e w (omega arith))

pub from_bits-lt : (w : ℕ) (f : ℕ → ℕ) → ((i : ℕ) → f i < 2) → from_bits w f < 2 ^ w
unfolding from_bits
from_bits-lt zero f h = omega arith
from_bits-lt (suc w) f h = omega (arith, from_bits-lt w f h, h w, pow-suc 2 w)

-- the number of a bits and then b bits
from_bits-append : (a b : ℕ) (f : ℕ → ℕ) → from_bits (a + b) f ≡ from_bits a f * 2 ^ b + from_bits b (λ j. f (a + j))
unfolding from_bits
from_bits-append a zero f = rw (add-zero a) (omega arith)
from_bits-append a (suc b) f =
    let e : from_bits a f * 2 ^ suc b ≡ 2 * (from_bits a f * 2 ^ b) = rw pow-suc (omega (arith, mul_assoc (from_bits a f) (2 ^ b) 2)) in
    rw add-suc (omega (arith, from_bits-append a b f))

-- the w bits from bit s on, with d bits after them
from_bits-part : (s w d : ℕ) (f : ℕ → ℕ) → ((i : ℕ) → f i < 2) → from_bits (s + w + d) f / 2 ^ d % 2 ^ w ≡ from_bits w (λ j. f (s + j))
from_bits-part s w d f h =
    ap (λ (n : ℕ). n / 2 ^ d % 2 ^ w) (from_bits-append (s + w) d f)
    ∙ ap (λ (n : ℕ). n % 2 ^ w) (digits_div (from_bits (s + w) f) (from_bits-lt d (λ j. f (s + w + j)) (λ j. h (s + w + j))) ∙ from_bits-append s w f)
    ∙ digits_mod (from_bits s f) (from_bits-lt w (λ j. f (s + j)) (λ j. h (s + j)))

pub bit-of-number : (w : ℕ) (f : ℕ → ℕ) (j : ℕ) → ((i : ℕ) → f i < 2) → j < w → bit_of w (from_bits w f) j ≡ f j
unfolding bit_of from_bits
bit-of-number w f j h g =
    let e : w ≡ j + 1 + (w - 1 - j) = omega arith in
    ap (λ (n : ℕ). from_bits n f / 2 ^ (w - 1 - j) % 2) e ∙ from_bits-part j 1 (w - 1 - j) f h ∙ zero-add (f (j + 0)) ∙ ap f (add-zero j)

bit_of-last : (w x : ℕ) → bit_of (suc w) x w ≡ x % 2
unfolding bit_of
bit_of-last w x =
    let e : suc w - 1 - w ≡ 0 = omega arith in
    rw e (ap (λ (n : ℕ). n % 2) (div-one x))

bit_of-before : (w x j : ℕ) → j < w → bit_of (suc w) x j ≡ bit_of w (x / 2) j
unfolding bit_of
bit_of-before w x j h =
    let e : suc w - 1 - j ≡ 1 + (w - 1 - j) = omega arith in
    rw e (ap (λ (n : ℕ). n % 2) (sym (shr-shr x 1 (w - 1 - j))))

pub number-of-bits : (w x : ℕ) → x < 2 ^ w → from_bits w (bit_of w x) ≡ x
unfolding from_bits
number-of-bits zero x h = omega arith
number-of-bits (suc w) x h =
    let e : from_bits w (bit_of (suc w) x) ≡ x / 2 = from_bits-same w (bit_of (suc w) x) (bit_of w (x / 2)) (bit_of-before w x) ∙ number-of-bits w (x / 2) (omega (arith, pow-suc 2 w)) in
    omega (arith, bit_of-last w x)

bit_of-zero : (w j : ℕ) → bit_of w 0 j ≡ 0
unfolding bit_of
bit_of-zero w j = ap (λ (n : ℕ). n % 2) (zero-div (2 ^ (w - 1 - j)))

from_bits-none : (w : ℕ) (f : ℕ → ℕ) → ((j : ℕ) → j < w → f j ≡ 0) → from_bits w f ≡ 0
from_bits-none w f e = from_bits-same w f (bit_of w 0) (λ j h. e j h ∙ sym (bit_of-zero w j)) ∙ number-of-bits w 0 (pow_pos w)

-- of bits that are zero from n on the first n are zero exactly when their number is 0
module _ (w n : ℕ) (f : ℕ → ℕ) (h : (i : ℕ) → f i < 2) (l : n ≤ w) (none : (k : ℕ) → n ≤ k → f k ≡ 0) where
  number-zero : every n (λ k. eqb (f k) 0) ≡ true → from_bits w f ≡ 0
  number-zero e = from_bits-none w f (λ j g. by-lt j n (λ b. eqb-true (f j) 0 (at_each n (λ k. eqb (f k) 0) e j b)) (none j))

  each-zero : from_bits w f ≡ 0 → every n (λ k. eqb (f k) 0) ≡ true
  each-zero z =
      each_at n (λ k. eqb (f k) 0)
      (λ k g. eq-eqb (f k) 0 (sym (bit-of-number w f k h (omega arith)) ∙ ap (λ (x : ℕ). bit_of w x k) z ∙ bit_of-zero w k))

  pub zero_bits : every n (λ k. eqb (f k) 0) ≡ eqb (from_bits w f) 0
  zero_bits =
      cases (every n (λ k. eqb (f k) 0))
      (λ e. e ∙ sym (eq-eqb (from_bits w f) 0 (number-zero e)))
      (λ e. e ∙ sym (ne_eqb (from_bits w f) 0 (λ z. true-not-false (each-zero z) e)))

pub row_bit-lt : (w : ℕ) (row : ℕ → ℕ) (k : ℕ) → row_bit w row k < 2
unfolding row_bit bit_of
row_bit-lt w row k = omega arith

-- bit j of number i of a row
row_bit-at : (w : ℕ) (row : ℕ → ℕ) (i j : ℕ) → j < w → row_bit w row (w * i + j) ≡ bit_of w (row i) j
unfolding row_bit
row_bit-at w row i j h =
    let q : (w * i + j) / w ≡ i = mul-add-div (omega arith) i j ∙ ap (λ (n : ℕ). i + n) (div-eq_of_lt h) ∙ add-zero i in
    let r : (w * i + j) % w ≡ j = mul-add-mod_self_left w i j ∙ mod-eq_of_lt h in
    rw (q, r)

-- the bits of the numbers of a row of bits
pub bits_back : (w : ℕ) (bits : ℕ → ℕ) → 0 < w → ((k : ℕ) → bits k < 2) → (k : ℕ) → row_bit w (group w bits) k ≡ bits k
unfolding row_bit group
bits_back w bits p h k =
    bit-of-number w (λ j. bits (w * (k / w) + j)) (k % w) (λ j. h (w * (k / w) + j)) (mod-lt k p) ∙ ap bits (div-add-mod k w)

-- the numbers of the bits of a row of numbers
pub row_back : (w : ℕ) (row : ℕ → ℕ) (i : ℕ) → row i < 2 ^ w → group w (row_bit w row) i ≡ row i
unfolding group
row_back w row i h = from_bits-same w (λ j. row_bit w row (w * i + j)) (bit_of w (row i)) (row_bit-at w row i) ∙ number-of-bits w (row i) h

pub regroup-lt : (v w : ℕ) (row : ℕ → ℕ) (i : ℕ) → regroup v w row i < 2 ^ w
unfolding regroup group
regroup-lt v w row i = from_bits-lt w (λ j. row_bit v row (w * i + j)) (λ j. row_bit-lt v row (w * i + j))

pub regroup-back : (v w : ℕ) (row : ℕ → ℕ) → 0 < w → ((i : ℕ) → row i < 2 ^ v) → (i : ℕ) → regroup w v (regroup v w row) i ≡ row i
unfolding regroup
regroup-back v w row p h i =
    ap (λ (bits : ℕ → ℕ). group v bits i) (fun_ext (bits_back w (row_bit v row) p (row_bit-lt v row))) ∙ row_back v row i (h i)

-- a row with nothing from n on regroups to nothing after the bits of n numbers
module _ (v n : ℕ) (row : ℕ → ℕ) (p : 0 < v) (none : (k : ℕ) → n ≤ k → row k ≡ 0) where
  pub row_bit-past : (k : ℕ) → v * n ≤ k → row_bit v row k ≡ 0
  unfolding row_bit
  row_bit-past k h =
      rw (none (k / v) ((le-div_iff_mul-le p).1 (omega (arith, mul_comm v n)))) (bit_of-zero v (k % v))

  pub regroup-past : (w i : ℕ) → v * n ≤ w * i → regroup v w row i ≡ 0
  unfolding regroup group
  regroup-past w i h = from_bits-none w (λ j. row_bit v row (w * i + j)) (λ j g. row_bit-past (w * i + j) (omega arith))

-- the number of c neighbours of v bits, from number q of a row on
unfoldable pub window : ℕ → ℕ → (ℕ → ℕ) → ℕ → ℕ
window v zero row q = 0
window v (suc c) row q = window v c row q * 2 ^ v + row (q + c)

window-bits : (v c : ℕ) (row : ℕ → ℕ) (q : ℕ) → ((i : ℕ) → row i < 2 ^ v) → window v c row q ≡ from_bits (c * v) (λ t. row_bit v row (v * q + t))
unfolding window group from_bits
window-bits v zero row q h = rw zero-mul
window-bits v (suc c) row q h =
    let e : (j : ℕ) → v * (q + c) + j ≡ v * q + (c * v + j) = λ j. omega (arith, mul-add v q c, mul_comm v c) in
    rw suc-mul (ap₂ (λ (x y : ℕ). x * 2 ^ v + y) (window-bits v c row q h) (sym (row_back v row (q + c) (h (q + c))) ∙ from_bits-same v _ _ (λ j g. ap (row_bit v row) (e j)))
    ∙ sym (from_bits-append (c * v) v (λ t. row_bit v row (v * q + t))))

-- number i of w bits is the window of neighbours that holds it, less the d bits after it
pub regroup-window : (v w c : ℕ) (row : ℕ → ℕ) (i d : ℕ) → ((k : ℕ) → row k < 2 ^ v) → w * i % v + w + d ≡ c * v → regroup v w row i ≡ window v c row (w * i / v) / 2 ^ d % 2 ^ w
unfolding regroup group
regroup-window v w c row i d h e =
    from_bits-same w _ _ (λ j g. ap (row_bit v row) (place j))
    ∙ sym (ap (λ (n : ℕ). n / 2 ^ d % 2 ^ w) (window-bits v c row (w * i / v) h ∙ ap (λ (n : ℕ). from_bits n (λ t. row_bit v row (v * (w * i / v) + t))) (sym e))
    ∙ from_bits-part (w * i % v) w d (λ t. row_bit v row (v * (w * i / v) + t)) (λ t. row_bit-lt v row (v * (w * i / v) + t)))
  where
    place : (j : ℕ) → w * i + j ≡ v * (w * i / v) + (w * i % v + j)
    place j = omega (arith, div-add-mod (w * i) v)
