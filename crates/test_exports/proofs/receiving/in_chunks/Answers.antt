-- `receiving::in_chunks` meets its contract: chunk by chunk, from a fresh start.
use Prim.Native.Nat.{◌+◌}
use mathlib.Core.Path.{refl, sym, ap, ◌∙◌}
use lib.ListN.{get_or, drop}
use native.Mathlib.Omega.{arith}
use Rattle.nametable_receiver.specs.Receiving.{State, state_of, received_all, verdict_of}
use Rattle.test_exports.specs.Chunks.{chunks_of}
use Rattle.test_exports.proofs.ChunkLaws.{chunks-turn, chunks-over}
use Rattle.test_exports.proofs.receiving.in_chunks.Goals as goal

pub loop-length-init : goal.loop-length-init
loop-length-init c =
    let a = c.args in (omega arith, ap (λ (s : State). received_all s (chunks_of a.lengths.now a.bytes.now)) c.start_again-state.ensures)

pub loop-length-preserved : goal.loop-length-preserved
loop-length-preserved c =
    let e = c.end_of-end in
    let l = c.loop-length in
    let a = c.args in (
      e.ensures.2,
      ap (λ (s : State). received_all s (chunks_of (drop (l.length-index + 1) a.lengths.now) (drop e.result a.bytes.now))) c.take_chunk-state.ensures
          ∙ rw e.ensures.0 (sym (chunks-turn a.bytes.now l.start (get_or a.lengths.now l.length-index 0) l.invariant.0 (state_of l.state) a.lengths.now l.length-index (omega arith) refl))
          ∙ l.invariant.1,
    )

pub returns : goal.returns
returns c =
    let l = c.loop-length in
    let a = c.args in
    c.ask.ensures ∙ ap verdict_of (sym (chunks-over (state_of l.state) a.lengths.now (drop l.start a.bytes.now) l.length-index (omega arith)) ∙ l.invariant.1)
