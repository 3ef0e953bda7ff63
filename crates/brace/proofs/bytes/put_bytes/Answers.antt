-- `bytes::put_bytes` meets its contract: i bytes are stored, the others are left.
use mathlib.Core.Path.{refl}
use native.Mathlib.Omega.{arith}
use Rattle.basis.proofs.Stores.{storing-all}
use Rattle.basis.proofs.Copying.{row-turn, row-filled}
use Rattle.brace_symbols.proofs.Labels.{length-bytes, byte_at}
use Rattle.brace.proofs.bytes.put_bytes.Goals as goal

pub loop-i-init : goal.loop-i-init
loop-i-init c = storing-all _ _

pub bounds-label-i : goal.bounds-label-i
bounds-label-i c = omega (arith, c.loop-i.invariant.long)

pub loop-i-preserved : goal.loop-i-preserved
loop-i-preserved c =
    rw (byte_at _ _ _ c.loop-i-test.true c.byte_of.ensures) (row-turn _ _ _ _ c.loop-i.invariant (omega (arith, length-bytes c.args.symbols.now)))

pub shape_of-label : goal.shape_of-label
shape_of-label c = c.loop-i.invariant.long

pub returns : goal.returns
returns c =
    let s = c.args.symbols.now in
    record {
      value = refl;
      label_after = rw (length-bytes s) at (row-filled _ _ _ _ c.loop-i.invariant (omega (arith, length-bytes s)) (omega (arith, length-bytes s)));
    }
