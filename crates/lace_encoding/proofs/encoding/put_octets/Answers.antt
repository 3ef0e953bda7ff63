-- The count of runs chooses between runs and all units.
use native.Mathlib.Omega.{arith}
use Rattle.lace_encoding.proofs.EncodeLaws.{octets-runs, octets-all}
use Rattle.basis.proofs.Clauses.{two_clauses}
use Rattle.lace_encoding.proofs.encoding.put_octets.Goals as goal

pub returns-then-run_count-n : goal.returns-then-run_count-n
returns-then-run_count-n c =
    two_clauses (λ a b. record { value = a; octets_after = b }) (octets-runs _ _ c.run_count.ensures.value _ _ _ (omega (arith, c.if-run_count-n.true))
    (c.put_runs.ensures.value, c.put_runs.ensures.octets_after))

pub returns : goal.returns
returns c =
    two_clauses (λ a b. record { value = a; octets_after = b }) (octets-all _ _ c.run_count.ensures.value _ _ _ (omega (arith, c.if-run_count-n.false)) c.put_all.ensures.value c.put_all.ensures.octets_after)
