-- `decoding::close_group` meets its contract: the XOR is a point other than 45, or no row goes on.
use Rattle.altdude.proofs.DecodeLaws.{stop-no-point, stop-point-45, goes_last}
use Rattle.altdude.proofs.decoding.State.close_group.Goals as goal

pub returns-then-not-is_point : goal.returns-then-not-is_point
returns-then-not-is_point c = stop-no-point _ _ c.requires.1 _ c.is_point.ensures c.if-not-is_point.true-raw

pub returns-then-point-eq45 : goal.returns-then-point-eq45
returns-then-point-eq45 c = stop-point-45 _ _ c.requires.1 c.if-point-eq45.true

pub returns : goal.returns
returns c = goes_last _ _ c.requires.1 _ c.is_point.ensures c.if-not-is_point.false-raw c.if-point-eq45.false
