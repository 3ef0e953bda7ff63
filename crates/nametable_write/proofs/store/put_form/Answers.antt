-- `store::put_form` meets its contract: the kind, the reader number, then the length.
use native.Mathlib.Omega.{arith}
use lib.ListN.{length-set}
use Rattle.nametable_write.specs.Writing.{number_bytes}
use Rattle.nametable_write.proofs.store.put_form.Goals as goal

pub put_number-requires : goal.put_number-requires
put_number-requires c = simp length-set (omega arith)

pub returns : goal.returns
unfolding number_bytes
returns c = rw c.put_number.ensures
