-- The bytes of a read go behind those that were read before.
use Rattle.std.proofs.Common.{rules}
use Rattle.streams.proofs.Moving.{taken-more}
use Rattle.streams.proofs.read_full.Goals as goal

pub loop-done-preserved : goal.loop-done-preserved
loop-done-preserved g c = record {
  inside = search rules;
  taken =
      taken-more _ _ _ c.loop-done.buffer c.read.new.buffer c.loop-done.done c.in-Ok-Some.n c.loop-done.invariant.inside (search rules)
      c.loop-done.invariant.taken (rw c.in-Ok-Some.field-0-is at c.in-Ok-Some.ensures.taken);
  silent = search rules;
}
