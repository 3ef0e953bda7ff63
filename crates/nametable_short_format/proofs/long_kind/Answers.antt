-- `long_kind` meets its contract, by what the number names.
use Rattle.nametable_short_format.specs.Format.{kind_named}
use Rattle.nametable_short_format.proofs.long_kind.Goals as goal

pub returns-in-Some : goal.returns-in-Some
unfolding kind_named
returns-in-Some c = rw (c.kind.ensures, ← c.of_own_number.ensures, c.in-Some.is)

pub returns-in-None : goal.returns-in-None
unfolding kind_named
returns-in-None c = rw (← c.of_own_number.ensures, c.in-None.is)
