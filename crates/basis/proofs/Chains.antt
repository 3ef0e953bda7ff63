-- What `all` and `position` over a row of numbers answer, where the closure answers a test: as the tests of every element, and of
-- the first.
use Prim.Native.Nat.{ℕ, ◌≤◌, ◌<◌}
use mathlib.Core.Path.{◌≡◌, sym, ◌∙◌}
use mathlib.Core.Bool.{Bool, true, false}
use mathlib.Core.List.{List}
use lib.ListN.{length, get_or}
use native.Mathlib.Omega.{arith}
use Rattle.std.proofs.Common.{Option, None, Some}
use Rattle.std.specs.Bool.{MatchBool}
use Rattle.std.specs.Fn.{Called}
use Rattle.std.specs.Iterator.{YieldsThen}
use Rattle.std.specs.List.{AllWithin, HoldsAt, FoldsTo}
use Rattle.std.specs.Option.{MatchOption, unwrap_or}
use Rattle.std.proofs.lemmas.Iterator.{YieldsList, cases_from_all, IsFirst-from_position}
use denote.Param.Members.{Mut}
use Rattle.basis.specs.Tests.{every_in, first_in}
use Rattle.basis.proofs.Tests.{each_at, not-each, first-at, first-stop}

module _ (test : ℕ → Bool) (xs : List ℕ) where
  all_is_every : (r : Bool) → MatchBool r (AllWithin (λ x. test x ≡ true) xs 0 (length xs)) ((k : ℕ) × (k < length xs) × HoldsAt (λ x. test x ≡ false) xs k)
      → r ≡ every_in test xs
  all_is_every true p = sym (each_at (length xs) _ (λ k h. p k 0 (omega arith) h))
  all_is_every false p = sym (not-each (length xs) _ p.0 p.1 (p.2 0))

  position_is_first : (r : Option ℕ) → MatchOption r (AllWithin (λ x. test x ≡ false) xs 0 (length xs))
      (λ i. (i < length xs) × HoldsAt (λ x. test x ≡ true) xs i × AllWithin (λ x. test x ≡ false) xs 0 i)
      → unwrap_or r (length xs) ≡ first_in test xs
  position_is_first None p = sym (first-stop (length xs) _ (length xs) (omega arith) (omega arith) (λ k h. p k 0 (omega arith) h))
  position_is_first (Some i) p = sym (first-at (length xs) _ i p.0 (p.1 0) (λ k h. p.2 k 0 (omega arith) h))

  module _ {S A F : Type 0} {steps : S → Option A → S → Type 0} {v : A → ℕ} {g : Mut F (A × Unit {0}) Bool} {s : S} (u : S) (f : F) where
    -- `all`, of a closure that answers the test
    pub every_from_all : {r : Bool}
        → (zs : List A) × (o : Option A) × (j : F) × YieldsThen steps s zs o u × FoldsTo (λ p x q. Called g p (x, tt) true q) f zs j × MatchOption o (r ≡ true) (λ x. (r ≡ false) × ((h : F) × Called g j (x, tt) false h))
        → YieldsList steps v s xs → ((x : A) (q : F) → Called g f (x, tt) true q → (q ≡ f) × (test (v x) ≡ true)) → ((x : A) (q : F) → Called g f (x, tt) false q → test (v x) ≡ false)
        → r ≡ every_in test xs
    every_from_all {r = r} ran yields holds fails = all_is_every r (cases_from_all u f r (λ x. test x ≡ true) (λ x. test x ≡ false) ran yields holds fails)

    -- `position`, of a closure that answers the test
    pub first_from_position : {r : Option ℕ}
        → (zs : List A) × (o : Option A) × (j : F) × YieldsThen steps s zs o u × FoldsTo (λ p x q. Called g p (x, tt) false q) f zs j × MatchOption o (r ≡ None) (λ x. (r ≡ Some (length zs)) × ((h : F) × Called g j (x, tt) true h))
        → YieldsList steps v s xs → ((x : A) (q : F) → Called g f (x, tt) true q → test (v x) ≡ true) → ((x : A) (q : F) → Called g f (x, tt) false q → (q ≡ f) × (test (v x) ≡ false))
        → unwrap_or r (length xs) ≡ first_in test xs
    first_from_position {r = r} ran yields holds fails = position_is_first r (IsFirst-from_position u f r (λ x. test x ≡ true) (λ x. test x ≡ false) ran yields holds fails)
