-- Each return decides one of the two forms.
use Rattle.lace_decoding.proofs.DecodeLaws.{stand-none, stand-even, stand-ff, stand-not, stand-runs}
use Rattle.lace_decoding.proofs.decoding.stand_for_units.Goals as goal

pub returns-then-octets-eq0 : goal.returns-then-octets-eq0
returns-then-octets-eq0 c = stand-none _ c.if-octets-eq0.true

pub returns-then-octets-ne1 : goal.returns-then-octets-ne1
returns-then-octets-ne1 c = stand-even _ _ c.requires.0 _ c.run_count-twice.ensures.value c.if-octets.true c.if-octets-ne1.true

pub returns-then-octets : goal.returns-then-octets
returns-then-octets c = stand-ff _ _ c.requires.0 _ c.run_count-twice.ensures.value c.if-octets.true c.if-octets-ne1.false

pub returns-then-not-are_runs : goal.returns-then-not-are_runs
returns-then-not-are_runs c =
    stand-not _ _ c.requires.0 _ c.run_count-twice.ensures.value c.if-octets.false _ c.are_runs.ensures c.if-not-are_runs.true-raw

pub returns : goal.returns
returns c =
    stand-runs _ _ c.requires.0 _ c.run_count-twice.ensures.value c.if-octets.false _ c.are_runs.ensures c.if-not-are_runs.false-raw
