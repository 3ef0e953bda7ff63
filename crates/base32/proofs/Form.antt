-- The rules of Base32's form as the code tests them.
use Prim.Native.Nat.{ℕ, zero, suc, ◌%◌, ◌<◌}
use mathlib.Core.Path.{◌≡◌, refl}
use mathlib.Core.Bool.{true, false, not, ◌||◌}
use mathlib.Core.List.{List}
use lib.Dec.{eqb}
use lib.ListN.{length}
use native.Mathlib.Omega.{arith}
use Rattle.basis.specs.Tests.{both}
use Rattle.basis.specs.Rows.{at}
use Rattle.base32.specs.Bits.{regroup}
use Rattle.base32.specs.Form.{octet_count, length_lawful, is_lawful}
use Rattle.base32.proofs.Regroup.{spare-octet}

-- the length by its remainder on division by 8
module _ (n : ℕ) where
  pub one-unlawful : n % 8 ≡ 1 → false ≡ length_lawful n
  unfolding length_lawful
  one-unlawful e = rw e

  pub three-unlawful : n % 8 ≡ 3 → false ≡ length_lawful n
  unfolding length_lawful
  three-unlawful e = rw e

  pub six-decides : (n % 8 ≡ 1 → ⊥) → (n % 8 ≡ 3 → ⊥) → not (eqb (n % 8) 6) ≡ length_lawful n
  unfolding length_lawful
  six-decides a b = by-remainder (n % 8) (omega arith) a b
    where
      by-remainder : (r : ℕ) → r < 8 → (r ≡ 1 → ⊥) → (r ≡ 3 → ⊥) → not (eqb r 6) ≡ (eqb r 0 || eqb r 2 || eqb r 4 || eqb r 5 || eqb r 7)
      by-remainder zero h a b = refl
      by-remainder (suc zero) h a b = absurd (a refl)
      by-remainder (suc (suc zero)) h a b = refl
      by-remainder (suc (suc (suc zero))) h a b = absurd (b refl)
      by-remainder (suc (suc (suc (suc zero)))) h a b = refl
      by-remainder (suc (suc (suc (suc (suc zero))))) h a b = refl
      by-remainder (suc (suc (suc (suc (suc (suc zero)))))) h a b = refl
      by-remainder (suc (suc (suc (suc (suc (suc (suc zero))))))) h a b = refl
      by-remainder (suc (suc (suc (suc (suc (suc (suc (suc r)))))))) h a b = absurd (omega arith)

-- the form by the length and the octet after the last whole one
module _ (qs : List ℕ) (n : ℕ) (e : length qs ≡ n) where
  pub length-unlawful : length_lawful n ≡ false → false ≡ is_lawful qs
  unfolding is_lawful both
  length-unlawful l = rw (e, l)

  pub octet-lawful : (m x : ℕ) → length_lawful n ≡ true → m ≡ octet_count n → x ≡ regroup 5 8 (at qs) m → eqb x 0 ≡ is_lawful qs
  unfolding is_lawful both
  octet-lawful m x l f g = rw (e, l, spare-octet qs, e, ← f, ← g)
