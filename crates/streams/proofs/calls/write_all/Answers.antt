-- The bytes of a write go behind those that were written before.
use Rattle.std.proofs.Common.{arith}
use Rattle.streams.proofs.Moving.{written-more}
use Rattle.streams.proofs.calls.write_all.Goals as goal

pub loop-done-preserved : goal.loop-done-preserved
loop-done-preserved g c = record {
  inside = omega (arith, c.write_some-n.ensures.count);
  written = written-more _ _ _ c.args.bytes.now c.loop-done.done c.write_some-n.result c.loop-done.invariant.written c.write_some-n.ensures.written;
}
