-- `bytes::put_unit` meets its contract.
use Prim.Native.Nat.{◌+◌}
use mathlib.Core.Path.{refl}
use native.Mathlib.Omega.{arith}
use Rattle.std.specs.Int.{w16, to_be_bytes}
use Rattle.basis.proofs.Stores.{stored-part}
use Rattle.utf16.proofs.BytePairs.{pair-bytes}
use Rattle.utf16.proofs.bytes.put_unit.Goals as goal

pub returns : goal.returns
returns c =
    let a = c.args in
    rw (pair-bytes a.unit (omega arith), c.copy_from_slice.ensures.after, c.to_be_bytes.ensures) (stored-part a.bytes.now (to_be_bytes w16 a.unit) a.at (a.at + 2) refl c.requires)
