-- Each arm answers by its place.
use mathlib.Core.Path.{◌∙◌}
use Rattle.lace_decoding.specs.Decoding.{may_stand}
use Rattle.lace_decoding.proofs.decoding.may_stand.Goals as goal

pub returns-in-Count : goal.returns-in-Count
unfolding may_stand
returns-in-Count c = rw c.in-Count.is

pub returns-in-High : goal.returns-in-High
unfolding may_stand
returns-in-High c = c.ne.ensures ∙ rw c.in-High.is

pub returns-in-Low : goal.returns-in-Low
unfolding may_stand
returns-in-Low c = rw c.in-Low.is
