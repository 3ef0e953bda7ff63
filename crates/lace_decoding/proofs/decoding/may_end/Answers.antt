-- Each arm answers by its place.
use mathlib.Core.Path.{◌∙◌}
use Rattle.lace_decoding.specs.Decoding.{may_end}
use Rattle.lace_decoding.proofs.decoding.may_end.Goals as goal

pub returns-in-Count : goal.returns-in-Count
unfolding may_end
returns-in-Count c = c.is_some.ensures ∙ rw c.in-Count.is

pub returns-in-High : goal.returns-in-High
unfolding may_end
returns-in-High c = rw c.in-High.is

pub returns-in-Low : goal.returns-in-Low
unfolding may_end
returns-in-Low c = rw c.in-Low.is
