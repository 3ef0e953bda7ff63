-- `units::put_points` meets its contract: what is left are the points of the units from `i` on.
use native.Mathlib.Omega.{arith}
use Rattle.utf16.proofs.Stores.{pointing-none, pointing-more, pointing-all}
use Rattle.basis.proofs.Clauses.{two_clauses}
use Rattle.utf16.proofs.units.put_points.Goals as goal

pub loop-i-init : goal.loop-i-init
loop-i-init g c = pointing-none _ _

pub put_unit_point-at-requires : goal.put_unit_point-at-requires
put_unit_point-at-requires g c = let s = c.loop-i.invariant.putting in omega (arith, s.few, s.left.long)

pub loop-i-preserved : goal.loop-i-preserved
loop-i-preserved g c =
    pointing-more _ _ _ _ _ _ c.loop-i.invariant (omega arith) _ c.unit_at-unit.ensures c.put_unit_point-at.ensures

pub shape_of-points : goal.shape_of-points
shape_of-points g c = c.loop-i.invariant.putting.left.long

pub returns : goal.returns
returns g c =
    two_clauses (λ a b. record { value = a; points_after = b }) (pointing-all _ _ _ _ _ _ c.loop-i.invariant (omega arith) (omega arith))
