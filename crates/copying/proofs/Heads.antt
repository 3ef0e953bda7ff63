-- The quintets at the head of a label are read back as their number.
use Prim.Native.Nat.{ℕ, zero, suc, ◌+◌, ◌*◌, ◌/◌, ◌%◌, ◌^◌}
use mathlib.Core.Path.{◌≡◌, refl, ap, ◌∙◌}
use mathlib.Core.Bool.{true}
use mathlib.Core.List.{List, [], ◌∷◌}
use lib.ListN.{drop}
use lib.Pow.{shr-shr}
use native.Mathlib.Nat.{div-one}
use native.Mathlib.Omega.{arith}
use Rattle.basis.specs.Rows.{at}
use Rattle.basis.proofs.Tests.{both_left, both_right, true-not-false}
use Rattle.copying.specs.Symbols.{is_for, are_for, quintet_of, quintets, head_number}
use Rattle.copying.proofs.Bytes.{coded-quintet}

-- a number before one quintet more
pub join-quintet : (x n : ℕ) → x / 2 ^ (5 * suc n) * 32 + x / 2 ^ (5 * n) % 32 ≡ x / 2 ^ (5 * n)
join-quintet x n =
    let e : x / 2 ^ (5 * n) / 32 ≡ x / 2 ^ (5 * suc n) = shr-shr x (5 * n) 5 ∙ ap (λ (i : ℕ). x / 2 ^ i) (omega arith) in
    omega arith

module _ (alphabet : List ℕ) (x : ℕ) (rest : List ℕ) where
  -- the number of the quintets
  pub head-number : (n : ℕ) (l : List ℕ) → are_for alphabet (quintets n x rest) l ≡ true → head_number alphabet n (x / 2 ^ (5 * n)) l ≡ x
  unfolding are_for quintets head_number
  head-number zero l e = div-one x
  head-number (suc n) [] e = absurd (true-not-false e refl)
  head-number (suc n) (b ∷ l) e =
      let q : quintet_of alphabet b ≡ x / 2 ^ (5 * n) % 32 = coded-quintet alphabet _ b (omega arith) (both_left (is_for alphabet (x / 2 ^ (5 * n) % 32) b) _ e) in
      rw (q, join-quintet x n) (head-number n l (both_right (is_for alphabet (x / 2 ^ (5 * n) % 32) b) _ e))

  -- what follows them
  pub head-rest : (n : ℕ) (l : List ℕ) → are_for alphabet (quintets n x rest) l ≡ true → are_for alphabet rest (drop n l) ≡ true
  unfolding are_for quintets
  head-rest zero l e = e
  head-rest (suc n) [] e = absurd (true-not-false e refl)
  head-rest (suc n) (b ∷ l) e = head-rest n l (both_right (is_for alphabet (x / 2 ^ (5 * n) % 32) b) _ e)

  -- the first of them
  pub head_first : (n : ℕ) (l : List ℕ) → are_for alphabet (quintets (suc n) x rest) l ≡ true → quintet_of alphabet (at l 0) ≡ x / 2 ^ (5 * n) % 32
  unfolding are_for quintets
  head_first n [] e = absurd (true-not-false e refl)
  head_first n (b ∷ l) e = coded-quintet alphabet _ b (omega arith) (both_left (is_for alphabet (x / 2 ^ (5 * n) % 32) b) _ e)
