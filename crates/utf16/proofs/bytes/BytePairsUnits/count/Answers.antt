-- `count` of a row of bytes meets its contract.
use mathlib.Core.Path.{sym}
use Rattle.utf16.proofs.BytePairs.{length-units_of_bytes}
use Rattle.utf16.proofs.bytes.BytePairsUnits.count.Goals as goal

pub returns : goal.returns
returns c = sym (length-units_of_bytes _)
