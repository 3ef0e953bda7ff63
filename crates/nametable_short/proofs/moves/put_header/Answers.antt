-- `moves::put_header` meets its contract: three stores.
use mathlib.Core.Path.{refl}
use native.Mathlib.Omega.{arith}
use lib.ListN.{length-set}
use Rattle.nametable_short.specs.Answer.{header_as}
use Rattle.nametable_short.proofs.moves.put_header.Goals as goal

pub bounds-moved-1 : goal.bounds-moved-1
unfolding header_as
bounds-moved-1 c = simp length-set (omega arith)

pub returns : goal.returns
unfolding header_as
returns c = refl
