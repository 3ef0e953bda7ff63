-- What is left are the units of the octets from the index on, from the place on.
use mathlib.Core.List.{[]}
use lib.ListN.{get_or}
use native.Mathlib.Omega.{arith}
use Rattle.lace_decoding.proofs.DecodeLaws.{unit-le, run-units-turn, run-units-end}
use Rattle.basis.proofs.Clauses.{two_clauses}
use Rattle.lace_decoding.proofs.decoding.put_run_units.Goals as goal

pub loop-octet-preserved : goal.loop-octet-preserved
loop-octet-preserved c =
    let p = c.put_unit-at in (
      run-units-turn _ _ _ _ _ _ c.loop-octet.invariant.0 (omega arith) _ p.ensures c.place_after-place.ensures,
      omega (arith, p.ensures.count, unit-le c.loop-octet.place (get_or c.args.octets.now c.loop-octet.octet-index 0) []),
    )

pub returns : goal.returns
returns c =
    two_clauses (λ a b. record { value = a; units_after = b }) (run-units-end _ _ _ _ _ _ c.loop-octet.invariant.0 c.loop-octet-test.false (omega arith))
