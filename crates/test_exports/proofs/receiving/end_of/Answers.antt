-- `receiving::end_of` meets its contract: inside, or at the end.
use native.Mathlib.Omega.{arith}
use Rattle.test_exports.proofs.ChunkLaws.{ends}
use Rattle.test_exports.proofs.receiving.end_of.Goals as goal

pub returns : goal.returns
returns c = (ends _ _ _ _ c.min.ensures c.requires, omega arith, omega arith)
