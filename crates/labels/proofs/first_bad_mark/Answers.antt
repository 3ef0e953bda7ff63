-- `first_bad_mark` meets its contract.
use Prim.Native.Nat.{ℕ, ◌<◌}
use mathlib.Core.Path.{◌≡◌, sym, ap, ◌∙◌}
use mathlib.Core.Bool.{Bool, true, false, not}
use mathlib.Core.List.{List}
use lib.ListN.{length, get_or}
use borrow.Author.Tests.{tests}
use native.Mathlib.Omega.{arith}
use Rattle.std.proofs.Common.{Option, None, Some, rules}
use Rattle.std.specs.List.{zip, AllWithin, HoldsAt}
use Rattle.std.specs.Option.{MatchOption, unwrap_or}
use Rattle.std.proofs.lemmas.Slice.Zip.{get_or-zip, length-zip}
use Rattle.std.proofs.lemmas.Iterator.{YieldsList-from_slice, YieldsList-from_zip, IsFirst-from_position}
use Rattle.basis.specs.Tests.{first_below}
use Rattle.basis.specs.Rows.{at}
use Rattle.basis.proofs.Tests.{first-at, first-stop}
use Rattle.labels.specs.Marks.{may_mark, first_bad_mark}
use Rattle.labels.proofs.first_bad_mark.Goals as goal

-- the first pair of two rows of one length of which a test holds
module _ (test : ℕ × ℕ → Bool) (xs ys : List ℕ) (same : length ys ≡ length xs) where
  long : length (zip xs ys) ≡ length xs
  long = omega (arith, length-zip xs ys)

  pair : (k : ℕ) → k < length xs → test (get_or (zip xs ys) k (0, 0)) ≡ test (at xs k, at ys k)
  pair k h = ap test (get_or-zip xs ys k (0, 0) h (omega arith))

  position_is_first : (r : Option ℕ) → MatchOption r (AllWithin (λ p. test p ≡ false) (zip xs ys) 0 (length (zip xs ys)))
      (λ i. (i < length (zip xs ys)) × HoldsAt (λ p. test p ≡ true) (zip xs ys) i × AllWithin (λ p. test p ≡ false) (zip xs ys) 0 i)
      → unwrap_or r (length xs) ≡ first_below (length xs) (λ k. test (at xs k, at ys k))
  position_is_first None p =
      sym (first-stop (length xs) _ (length xs) (omega arith) (omega arith) (λ k h. sym (pair k h) ∙ p k (0, 0) (omega arith) (omega (arith, long))))
  position_is_first (Some i) p =
      let inside : i < length xs = omega (arith, p.0, long) in
      sym (first-at (length xs) _ i inside (sym (pair i inside) ∙ p.1 (0, 0)) (λ k h. sym (pair k (omega arith)) ∙ p.2 k (0, 0) (omega arith) h))

pub returns : goal.returns
unfolding first_bad_mark
returns c =
    let a = c.args in
    c.unwrap_or.ensures
    ∙ position_is_first (λ p. not (may_mark a.keeps p.0 p.1)) a.text.now a.marks.now c.requires _
    (IsFirst-from_position c.position.new.self _ _ (λ p. not (may_mark a.keeps p.0 p.1) ≡ true) (λ p. not (may_mark a.keeps p.0 p.1) ≡ false) c.position.ensures.ran
    (YieldsList-from_zip (YieldsList-from_slice a.text.now cc) (YieldsList-from_slice a.marks.now cc)) (λ x q k. search (rules, tests)) (λ x q k. search (rules, tests)))
