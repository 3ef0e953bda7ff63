-- `bytes::put_point` meets its contract.
use native.Mathlib.Omega.{arith}
use Rattle.utf16.proofs.Surrogates.{point-top}
use Rattle.utf16.proofs.Stores.{put-small-bytes, put-big-bytes}
use Rattle.utf16.proofs.bytes.put_point.Goals as goal

pub returns-then-point-lt65536 : goal.returns-then-point-lt65536
returns-then-point-lt65536 c =
    put-small-bytes _ _ _ c.if-point-lt65536.true c.put_unit.ensures

pub high_of-requires : goal.high_of-requires
high_of-requires c = (omega arith, point-top _ c.requires.point_value)

pub returns : goal.returns
returns c =
    put-big-bytes _ _ _ c.if-point-lt65536.false _ _ c.high_of.ensures c.low_of.ensures c.put_unit-2.ensures c.put_unit-3.ensures
