-- `units::put_units` meets its contract: what is left are the units of the points from the loop's index on.
use native.Mathlib.Omega.{arith}
use Rattle.utf16.proofs.Surrogates.{text_at}
use Rattle.utf16.proofs.Pieces.{putting-none, putting-more, putting-all}
use Rattle.utf16.proofs.Stores.{units-pieces}
use Rattle.basis.proofs.Clauses.{two_clauses}
use Rattle.utf16.proofs.units.put_units.Goals as goal

pub loop-point-init : goal.loop-point-init
loop-point-init c = putting-none (units-pieces _) _

pub put_point_units-at-requires : goal.put_point_units-at-requires
put_point_units-at-requires c =
    let s = c.loop-point.invariant in
    record {
      at_in_bounds = omega (arith, s.few, s.left.long);
      point_value = text_at _ _ c.requires.points_value c.loop-point-test.true;
    }

pub loop-point-preserved : goal.loop-point-preserved
loop-point-preserved c =
    putting-more (units-pieces _) c.loop-point.invariant c.loop-point-test.true c.put_point_units-at.ensures

pub shape_of-units : goal.shape_of-units
shape_of-units c = c.loop-point.invariant.left.long

pub returns : goal.returns
returns c =
    two_clauses (λ a b. record { value = a; units_after = b }) (putting-all (units-pieces _) c.loop-point.invariant c.loop-point-test.false c.requires.points_in_bounds)
