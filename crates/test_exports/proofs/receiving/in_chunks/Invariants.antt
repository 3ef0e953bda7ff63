-- `receiving::in_chunks` meets its contract: chunk by chunk, from a fresh start.
use Prim.Native.Nat.{◌≤◌}
use mathlib.Core.Path.{◌≡◌}
use lib.ListN.{length, drop}
use Rattle.nametable_receiver.specs.Receiving.{State, state_of, fresh, received_all}
use Rattle.test_exports.specs.Chunks.{chunks_of}
use Rattle.test_exports.proofs.receiving.in_chunks.Given as goal

abbrev pub invariant-loop-length : goal.invariant-loop-length
invariant-loop-length l =
    (l.start ≤ length l.bytes)
    × (◌≡◌ {A = State} (received_all (state_of l.state) (chunks_of (drop l.length-index l.lengths) (drop l.start l.bytes))) (received_all fresh (chunks_of l.lengths l.bytes)))
