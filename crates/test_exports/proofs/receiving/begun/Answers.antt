-- `receiving::begun` meets its contract: a new receiver takes the first bytes.
use mathlib.Core.Path.{sym, ap, ◌∙◌}
use lib.ListN.{take}
use lib.Seq.{length-take-le}
use Rattle.nametable_receiver.specs.Receiving.{State, received}
use Rattle.test_exports.proofs.receiving.begun.Goals as goal

pub slice_bounds-take_chunk-end : goal.slice_bounds-take_chunk-end
slice_bounds-take_chunk-end c = sym (length-take-le c.end_of-end.result c.args.bytes.now c.end_of-end.ensures.2)

pub returns : goal.returns
returns c =
    c.take_chunk.ensures ∙ ap (λ (s : State). received s (take c.end_of-end.result c.args.bytes.now)) c.new.ensures ∙ rw c.end_of-end.ensures.0
