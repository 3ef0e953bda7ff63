-- `to_points` meets its contract.
use mathlib.Core.Path.{sym}
use lib.ListN.{length}
use lib.Seq.{length-take-le}
use native.Mathlib.Omega.{arith}
use Rattle.basis.specs.Outcome.{outcome_by}
use Rattle.utf16.specs.Answer.{to_points_outcome}
use Rattle.utf16.proofs.Refusals.{count-leaves, room-leaves, element-leaves, all-leaves}
use Rattle.basis.proofs.Clauses.{two_clauses}
use Rattle.utf16.proofs.to_points.Goals as goal

pub returns-then-units-n : goal.returns-then-units-n
unfolding outcome_by to_points_outcome
returns-then-units-n c =
    rw c.at.ensures (two_clauses (λ a b. record { result_value = a; points_after = b }) (count-leaves _ _ _ _ _ 10 _ _ _ c.if-units-n.true))

pub slice_bounds-row-end : goal.slice_bounds-row-end
slice_bounds-row-end c = sym (length-take-le _ _ c.if-units-n.false)

pub returns-then-points-n : goal.returns-then-points-n
unfolding outcome_by to_points_outcome
returns-then-points-n c =
    let a = c.args in
    rw c.at-then-points-n.ensures (two_clauses (λ a b. record { result_value = a; points_after = b }) (room-leaves (length a.units.now) a.count.0 a.count.0 (length a.points.now) _ 10 _ (omega arith) _ _ (omega arith)))

pub returns-then-unpaired-n : goal.returns-then-unpaired-n
unfolding outcome_by to_points_outcome
returns-then-unpaired-n c =
    let a = c.args in
    rw c.at-then-unpaired-n.ensures (two_clauses (λ a b. record { result_value = a; points_after = b }) (element-leaves (length a.units.now) a.count.0 a.count.0 (length a.points.now) _ 10 _ (omega arith) (omega arith) _ c.first_unpaired-unpaired.ensures _ _ c.if-unpaired-n.true))

pub put_points-written-requires : goal.put_points-written-requires
put_points-written-requires c =
    let h = c.if-units-n.false in
    rw length-take-le (omega arith)

pub returns : goal.returns
unfolding outcome_by to_points_outcome
returns c =
    let a = c.args in
    two_clauses (λ a b. record { result_value = a; points_after = b }) (all-leaves (length a.units.now) a.count.0 a.count.0 (length a.points.now) _ 10 _ (omega arith) (omega arith) _ c.first_unpaired-unpaired.ensures _ _ c.if-unpaired-n.false _ _ (c.put_points-written.ensures.value, c.put_points-written.ensures.points_after))
