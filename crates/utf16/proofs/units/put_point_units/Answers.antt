-- `units::put_point_units` meets its contract.
use lib.ListN.{length-set}
use native.Mathlib.Omega.{arith}
use Rattle.utf16.proofs.Surrogates.{point-top}
use Rattle.utf16.proofs.Stores.{put_small, put-big}
use Rattle.utf16.proofs.units.put_point_units.Goals as goal

pub returns-then-point-lt65536 : goal.returns-then-point-lt65536
returns-then-point-lt65536 c =
    put_small _ _ _ c.if-point-lt65536.true

pub high_of-requires : goal.high_of-requires
high_of-requires c = (omega arith, point-top _ c.requires.point_value)

pub bounds-units-at-3 : goal.bounds-units-at-3
bounds-units-at-3 c = rw length-set (omega arith)

pub returns : goal.returns
returns c =
    put-big _ _ _ c.if-point-lt65536.false _ _ c.high_of.ensures c.low_of.ensures
