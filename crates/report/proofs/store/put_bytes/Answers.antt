-- `store::put_bytes` meets its contract.
use Prim.Native.Nat.{◌+◌}
use mathlib.Core.Path.{refl}
use lib.ListN.{length}
use Rattle.basis.proofs.Stores.{stored-part}
use Rattle.report.proofs.store.put_bytes.Goals as goal

pub returns : goal.returns
returns c =
    let a = c.args in
    rw c.copy_from_slice.ensures.after (stored-part a.out.now a.bytes.now a.at (a.at + length a.bytes.now) refl c.requires)
