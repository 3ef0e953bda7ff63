-- Each turn stores the octets of one unit; at most three for each unit passed.
use native.Mathlib.Omega.{arith}
use Rattle.lace_encoding.proofs.EncodeLaws.{step-few, runs-turn, runs-end}
use Rattle.basis.proofs.Clauses.{two_clauses}
use Rattle.lace_encoding.proofs.encoding.put_runs.Goals as goal

pub loop-i-preserved : goal.loop-i-preserved
loop-i-preserved c =
    let l = c.loop-i in (
      omega (arith, c.put_run_unit-at.ensures.count, step-few c.args.units.now l.i l.before (omega arith) l.octets l.at),
      runs-turn _ _ _ _ _ l.i l.invariant.1 (omega arith) c.put_run_unit-at.ensures,
    )

pub returns : goal.returns
returns c =
    let l = c.loop-i in
    two_clauses (λ a b. record { value = a; octets_after = b }) (runs-end _ _ _ _ _ l.i l.invariant.1 (omega arith) (omega arith))
