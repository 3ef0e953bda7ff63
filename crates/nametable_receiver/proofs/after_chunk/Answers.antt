-- `after_chunk` meets its contract: byte by byte.
use Prim.Native.Nat.{◌+◌}
use mathlib.Core.Path.{refl, sym, ap, ◌∙◌}
use lib.ListN.{drop}
use native.Mathlib.Omega.{arith}
use Rattle.nametable_receiver.specs.Receiving.{State, state_of, received}
use Rattle.nametable_receiver.proofs.StepLaws.{received-turn, received-over}
use Rattle.nametable_receiver.proofs.after_chunk.Goals as goal

pub loop-byte-init : goal.loop-byte-init
loop-byte-init c = refl

pub loop-byte-preserved : goal.loop-byte-preserved
loop-byte-preserved c =
    let l = c.loop-byte in
    let bytes = c.args.chunk.now in
    ap (λ (s : State). received s (drop (l.byte-index + 1) bytes)) c.after_byte-next.ensures ∙ sym (received-turn (state_of l.next) bytes l.byte-index (omega arith)) ∙ l.invariant

pub returns : goal.returns
returns c = let l = c.loop-byte in sym (received-over (state_of l.next) _ l.byte-index (omega arith)) ∙ l.invariant
