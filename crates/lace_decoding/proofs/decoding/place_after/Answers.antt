-- Each arm answers by its place; a last low octet ends its run.
use borrow.Author.Tests.{lt-ltb, le-ltb}
use Rattle.lace_decoding.specs.Decoding.{place_after}
use Rattle.lace_decoding.proofs.decoding.place_after.Goals as goal

pub returns-then-left-lt2 : goal.returns-then-left-lt2
unfolding place_after
returns-then-left-lt2 c = rw (c.in-Low.is, lt-ltb _ _ c.if-left-lt2.true)

pub returns-in-Count : goal.returns-in-Count
unfolding place_after
returns-in-Count c = rw c.in-Count.is

pub returns-in-High : goal.returns-in-High
unfolding place_after
returns-in-High c = rw c.in-High.is

pub returns-else-left-lt2 : goal.returns-else-left-lt2
unfolding place_after
returns-else-left-lt2 c = rw (c.in-Low.is, le-ltb _ _ c.if-left-lt2.false)
