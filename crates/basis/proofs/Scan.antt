-- A scan: a loop through the numbers below n until a test holds. Its invariant, and its answers.
use Prim.Native.Nat.{ℕ, ◌+◌, ◌≤◌, ◌<◌}
use mathlib.Core.Path.{◌≡◌, sym}
use mathlib.Core.Bool.{Bool, true, false, not}
use borrow.Author.Count.{below_none, below_more}
use borrow.Author.Tests.{not-true, not-false}
use native.Mathlib.Omega.{arith}
use Rattle.basis.specs.Tests.{every, first_below}
use Rattle.basis.proofs.Tests.{each_at, not-each, first-at, first-stop}

-- the scan has passed every number before i: the test holds at none of them
pub record Passed (n : ℕ) (test : ℕ → Bool) (i : ℕ) : Type 0 where
  pub inside : i ≤ n
  pub fails : (k : ℕ) → k < i → test k ≡ false

pub passed_none : (n : ℕ) (test : ℕ → Bool) → Passed n test 0
passed_none n test = record { inside = omega arith; fails = below_none _ }

module _ {n : ℕ} {test : ℕ → Bool} {i : ℕ} (p : Passed n test i) where
  pub passed-more : i < n → test i ≡ false → Passed n test (i + 1)
  passed-more h e = record { inside = omega arith; fails = below_more _ _ p.fails e }

  -- the test holds at i
  pub found_first : i < n → test i ≡ true → i ≡ first_below n test
  found_first h e = sym (first-at n test i h e p.fails)

  -- the scan has gone to the end
  pub found_none : n ≤ i → i ≡ first_below n test
  found_none h = sym (first-stop n test i h p.inside p.fails)

-- a scan for a number at which a test fails
module _ (n : ℕ) (test : ℕ → Bool) (i : ℕ) where
  pub found-failing : i < n → not (test i) ≡ true → false ≡ every n test
  found-failing h e = sym (not-each n test i h (not-true (test i) e))

  pub holds-throughout : Passed n (λ k. not (test k)) i → n ≤ i → true ≡ every n test
  holds-throughout p h = sym (each_at n test (λ k g. not-false (test k) (p.fails k (omega arith))))
