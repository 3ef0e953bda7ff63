-- The digits of a group: the bound of the recursion does not matter, one digit more, and induction over the digits.
use mathlib.Core.Path.{◌≡◌, refl, ◌∙◌}
use mathlib.Core.List.{List, ◌∷◌}
use Prim.Native.Nat.{ℕ, zero, suc, ◌+◌, ◌*◌, ◌/◌, ◌%◌, ◌<◌, ◌≤◌}
use native.Mathlib.Nat.{not-suc-le-zero, le_refl}
use native.Mathlib.Omega.{arith}
use Rattle.altdude.specs.Encoding.{leading_digits}

-- any bound of x or more gives the same digits
pub digits-bound : (f x : ℕ) (rest : List ℕ) → x ≤ f → leading_digits f x rest ≡ leading_digits x x rest
unfolding leading_digits
digits-bound f x rest h = both_ways f x x rest h (le_refl x)
  where
    both_ways : (f g x : ℕ) (rest : List ℕ) → x ≤ f → x ≤ g → leading_digits f x rest ≡ leading_digits g x rest
    both_ways zero zero x rest h k = refl
    both_ways zero (suc g) zero rest h k = refl
    both_ways zero (suc g) (suc x) rest h k = absurd (not-suc-le-zero h)
    both_ways (suc f) zero zero rest h k = refl
    both_ways (suc f) zero (suc x) rest h k = absurd (not-suc-le-zero k)
    both_ways (suc f) (suc g) zero rest h k = refl
    both_ways (suc f) (suc g) (suc x) rest h k = both_ways f g (suc x / 16) ((16 + suc x % 16) ∷ rest) (omega arith) (omega arith)

-- one digit more
pub digits_step : (v d : ℕ) (rest : List ℕ) → d < 16 → (v * 16 + d ≡ 0 → ⊥) → leading_digits (v * 16 + d) (v * 16 + d) rest ≡ leading_digits v v ((16 + d) ∷ rest)
unfolding leading_digits
digits_step v d rest h n = go (v * 16 + d) refl
  where
    go : (x : ℕ) → v * 16 + d ≡ x → leading_digits x x rest ≡ leading_digits v v ((16 + d) ∷ rest)
    go zero e = absurd (n e)
    go (suc x) e =
        let q : suc x / 16 ≡ v = omega arith in
        let r : suc x % 16 ≡ d = omega arith in
        rw (q, r) (digits-bound x v ((16 + d) ∷ rest) (omega arith))

-- what treats each digit as one step treats all of them as x
pub digits-ind : {A : Type 0} (F : ℕ → List ℕ → A) → ((x : ℕ) (rest : List ℕ) → 0 < x → F (x / 16) ((16 + x % 16) ∷ rest) ≡ F x rest)
    → (x : ℕ) (rest : List ℕ) → F 0 (leading_digits x x rest) ≡ F x rest
unfolding leading_digits
digits-ind {A} F one x rest = go x x rest (le_refl x)
  where
    go : (f x : ℕ) (rest : List ℕ) → x ≤ f → F 0 (leading_digits f x rest) ≡ F x rest
    go zero zero rest h = refl
    go zero (suc x) rest h = absurd (not-suc-le-zero h)
    go (suc f) zero rest h = refl
    go (suc f) (suc x) rest h = go f (suc x / 16) ((16 + suc x % 16) ∷ rest) (omega arith) ∙ one (suc x) rest (omega arith)

pub digits-none : (v : ℕ) (l : List ℕ) → v ≡ 0 → leading_digits v v l ≡ l
unfolding leading_digits
digits-none v l e = rw e
