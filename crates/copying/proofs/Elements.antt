-- A property of every element of a row.
use Prim.Native.Nat.{ℕ, zero, suc}
use mathlib.Core.Path.{◌≡◌}
use mathlib.Core.Bool.{Bool, true}
use mathlib.Core.List.{List, [], ◌∷◌, ◌++◌}
use lib.ListN.{take, drop}
use Rattle.basis.specs.Tests.{every, every_in}
use Rattle.basis.proofs.Tests.{both_left, both_right}

unfoldable pub AllOf : (ℕ → Type 0) → List ℕ → Type 0
AllOf P [] = Unit {0}
AllOf P (x ∷ xs) = P x × AllOf P xs

-- a test that holds of every element, with what is known of each
pub all_tested : (P Q : ℕ → Type 0) (test : ℕ → Bool) → ((x : ℕ) → test x ≡ true → P x → Q x) → (xs : List ℕ) → every_in test xs ≡ true → AllOf P xs → AllOf Q xs
unfolding AllOf every
all_tested P Q test f [] e a = tt
all_tested P Q test f (x ∷ xs) e a = (f x (both_left (test x) _ e) a.0, all_tested P Q test f xs (both_right (test x) _ e) a.1)

module _ (P : ℕ → Type 0) where
  -- what follows for each element
  pub all_then : (Q : ℕ → Type 0) → ((x : ℕ) → P x → Q x) → (xs : List ℕ) → AllOf P xs → AllOf Q xs
  unfolding AllOf
  all_then Q f [] a = tt
  all_then Q f (x ∷ xs) a = (f x a.0, all_then Q f xs a.1)

  -- two rows joined, and the parts of a row
  pub all_append : (xs ys : List ℕ) → AllOf P xs → AllOf P ys → AllOf P (xs ++ ys)
  unfolding AllOf
  all_append [] ys a b = b
  all_append (x ∷ xs) ys a b = (a.0, all_append xs ys a.1 b)

  pub all_drop : (n : ℕ) (xs : List ℕ) → AllOf P xs → AllOf P (drop n xs)
  unfolding AllOf
  all_drop zero xs a = a
  all_drop (suc n) [] a = tt
  all_drop (suc n) (x ∷ xs) a = all_drop n xs a.1

  pub all_take : (n : ℕ) (xs : List ℕ) → AllOf P xs → AllOf P (take n xs)
  unfolding AllOf
  all_take zero xs a = tt
  all_take (suc n) [] a = tt
  all_take (suc n) (x ∷ xs) a = (a.0, all_take n xs a.1)
