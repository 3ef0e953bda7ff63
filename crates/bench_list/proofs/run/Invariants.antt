-- What is held lies within the line, and the buffers keep their lengths.
use Prim.Native.Nat.{◌≤◌}
use mathlib.Core.Path.{◌≡◌}
use lib.ListN.{length}
use Rattle.bench_list.proofs.run.Given as goal

abbrev pub invariant-loop : goal.invariant-loop
invariant-loop g l = (l.held ≤ length l.line) × (length l.chunk ≡ length l.initial.chunk) × (length l.line ≡ length l.initial.line) × (length l.out ≡ length l.initial.out)
