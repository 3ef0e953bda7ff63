-- `to_units` meets its contract.
use Prim.Native.Nat.{◌*◌}
use mathlib.Core.Path.{sym}
use lib.ListN.{length}
use lib.Seq.{length-take-le}
use native.Mathlib.Omega.{arith}
use Rattle.basis.specs.Outcome.{outcome_by}
use Rattle.utf16.specs.Answer.{to_units_outcome}
use Rattle.utf16.proofs.Refusals.{count-leaves, room-leaves, element-leaves, all-leaves, text-judged}
use Rattle.basis.proofs.Clauses.{two_clauses}
use Rattle.utf16.proofs.to_units.Goals as goal

pub returns-then-points-n : goal.returns-then-points-n
unfolding outcome_by to_units_outcome
returns-then-points-n c =
    rw c.at.ensures (two_clauses (λ a b. record { result_value = a; units_after = b }) (count-leaves _ _ _ _ _ 4 _ _ _ c.if-points-n.true))

pub slice_bounds-row-end : goal.slice_bounds-row-end
slice_bounds-row-end c = sym (length-take-le _ _ c.if-points-n.false)

pub returns-then-units-needed : goal.returns-then-units-needed
unfolding outcome_by to_units_outcome
returns-then-units-needed c =
    let a = c.args in
    rw c.at-then-units-needed.ensures (two_clauses (λ a b. record { result_value = a; units_after = b }) (room-leaves (length a.points.now) a.count.0 (2 * a.count.0) (length a.units.now) _ 4 _ (omega arith) _ _ (omega arith)))

pub returns-then-bad-n : goal.returns-then-bad-n
unfolding outcome_by to_units_outcome
returns-then-bad-n c =
    let a = c.args in
    rw c.at-then-bad-n.ensures (two_clauses (λ a b. record { result_value = a; units_after = b }) (element-leaves (length a.points.now) a.count.0 (2 * a.count.0) (length a.units.now) _ 4 _ (omega arith) (omega arith) _ c.first_not_point-bad.ensures _ _ (omega arith)))

pub put_units-written-requires : goal.put_units-written-requires
put_units-written-requires c =
    let h = c.if-points-n.false in
    record {
      points_in_bounds = rw length-take-le (omega arith);
      points_value = text-judged _ _ _ h c.first_not_point-bad.ensures (omega arith);
    }

pub returns : goal.returns
unfolding outcome_by to_units_outcome
returns c =
    let a = c.args in
    two_clauses (λ a b. record { result_value = a; units_after = b }) (all-leaves (length a.points.now) a.count.0 (2 * a.count.0) (length a.units.now) _ 4 _ (omega arith) (omega arith) _ c.first_not_point-bad.ensures _ _ (omega arith) _ _ (c.put_units-written.ensures.value, c.put_units-written.ensures.units_after))
