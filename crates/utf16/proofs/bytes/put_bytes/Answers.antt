-- `bytes::put_bytes` meets its contract: what is left are the bytes of the units from the loop's index on.
use native.Mathlib.Omega.{arith}
use Rattle.utf16.proofs.Pieces.{putting-none, putting-more, putting-all}
use Rattle.utf16.proofs.Stores.{bytes-pieces}
use Rattle.basis.proofs.Clauses.{two_clauses}
use Rattle.utf16.proofs.bytes.put_bytes.Goals as goal

pub loop-unit-init : goal.loop-unit-init
loop-unit-init c = putting-none (bytes-pieces _) _

pub put_unit-requires : goal.put_unit-requires
put_unit-requires c = let s = c.loop-unit.invariant in omega (arith, s.few, s.left.long)

pub loop-unit-preserved : goal.loop-unit-preserved
loop-unit-preserved c = putting-more (bytes-pieces _) c.loop-unit.invariant c.loop-unit-test.true c.put_unit.ensures

pub shape_of-bytes : goal.shape_of-bytes
shape_of-bytes c = c.loop-unit.invariant.left.long

pub returns : goal.returns
returns c =
    two_clauses (λ a b. record { value = a; bytes_after = b }) (putting-all (bytes-pieces _) c.loop-unit.invariant c.loop-unit-test.false c.requires)
