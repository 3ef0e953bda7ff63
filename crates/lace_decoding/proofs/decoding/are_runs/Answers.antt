-- What is left are runs, from the place on, exactly when all octets are.
use native.Mathlib.Omega.{arith}
use Rattle.lace_decoding.proofs.DecodeLaws.{runs-end, runs-stop, runs-turn}
use Rattle.lace_decoding.proofs.decoding.are_runs.Goals as goal

pub returns-then-not-may_stand : goal.returns-then-not-may_stand
returns-then-not-may_stand c =
    runs-stop _ _ _ c.loop-octet.invariant (omega arith) _ c.may_stand.ensures c.if-not-may_stand.true-raw

pub loop-octet-preserved : goal.loop-octet-preserved
loop-octet-preserved c =
    runs-turn _ _ _ c.loop-octet.invariant (omega arith) _ c.may_stand.ensures c.if-not-may_stand.false-raw _ c.place_after-place.ensures

pub returns : goal.returns
returns c = runs-end _ _ c.loop-octet.octet-index c.loop-octet.invariant (omega arith) _ c.may_end.ensures
