-- `after_chunk` meets its contract: byte by byte.
use mathlib.Core.Path.{◌≡◌}
use lib.ListN.{drop}
use Rattle.nametable_receiver.specs.Receiving.{State, state_of, received}
use Rattle.nametable_receiver.proofs.after_chunk.Given as goal

abbrev pub invariant-loop-byte : goal.invariant-loop-byte
invariant-loop-byte l = ◌≡◌ {A = State} (received (state_of l.next) (drop l.byte-index l.chunk)) (received (state_of l.initial.next) l.chunk)
