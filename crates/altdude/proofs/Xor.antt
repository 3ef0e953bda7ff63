-- XOR undoes itself, and keeps within a number of bits.
use mathlib.Core.Path.{◌≡◌, refl, ap, ap₂, ◌∙◌}
use Prim.Native.Nat.{ℕ, zero, suc, ◌+◌, ◌*◌, ◌/◌, ◌%◌, ◌<◌, ◌^◌}
use native.Mathlib.Nat.{div-add-mod'}
use native.Mathlib.Omega.{arith}
use lib.Arith.{bin_ind, digits_div, digits_mod}
use lib.Bits.{bit_xor, differ, xor_step, xor_comm, xor_lt}

differ-lt : (u w : ℕ) → u < 2 → w < 2 → differ u w < 2
differ-lt zero w hu hw = hw
differ-lt (suc u) zero hu hw = hu
differ-lt (suc zero) (suc zero) hu hw = omega arith
differ-lt (suc zero) (suc (suc w)) hu hw = omega arith
differ-lt (suc (suc u)) (suc w) hu hw = omega arith

differ-undo : (u w : ℕ) → u < 2 → w < 2 → differ u (differ u w) ≡ w
differ-undo zero w hu hw = refl
differ-undo (suc zero) zero hu hw = refl
differ-undo (suc zero) (suc zero) hu hw = refl
differ-undo (suc zero) (suc (suc w)) hu hw = absurd (omega arith)
differ-undo (suc (suc u)) w hu hw = absurd (omega arith)

half : (a b : ℕ) → bit_xor a b / 2 ≡ bit_xor (a / 2) (b / 2)
half a b = rw (xor_step a b) (digits_div (bit_xor (a / 2) (b / 2)) (differ-lt (a % 2) (b % 2) (omega arith) (omega arith)))

odd : (a b : ℕ) → bit_xor a b % 2 ≡ differ (a % 2) (b % 2)
odd a b = rw (xor_step a b) (digits_mod (bit_xor (a / 2) (b / 2)) (differ-lt (a % 2) (b % 2) (omega arith) (omega arith)))

pub xor-undo : (a b : ℕ) → bit_xor a (bit_xor a b) ≡ b
xor-undo =
    bin_ind (λ (n : ℕ). (b : ℕ) → bit_xor n (bit_xor n b) ≡ b) (λ b. refl)
    (λ n ih b. xor_step n (bit_xor n b)
    ∙ ap₂ (λ (x y : ℕ). x * 2 + y)
    (ap (bit_xor (n / 2)) (half n b) ∙ ih (b / 2))
    (ap (differ (n % 2)) (odd n b) ∙ differ-undo (n % 2) (b % 2) (omega arith) (omega arith))
    ∙ div-add-mod' b 2)

-- m after the XOR with p ^ m is p
pub xor-back : (m p : ℕ) → bit_xor m (bit_xor p m) ≡ p
xor-back m p = ap (bit_xor m) (xor_comm p m) ∙ xor-undo m p

-- (m ^ x) ^ m is x
pub xor-again : (m x : ℕ) → bit_xor (bit_xor m x) m ≡ x
xor-again m x = xor_comm (bit_xor m x) m ∙ xor-undo m x

-- a large number stays large
pub xor_large : (k m x : ℕ) → m < 2 ^ k → bit_xor m x < 2 ^ k → x < 2 ^ k
xor_large k m x hm hx = rw xor-undo at (xor_lt k m (bit_xor m x) hm hx)
