-- `steps::announced` meets its contract: a part of the header, or all of it.
use mathlib.Core.Path.{sym, ap, ◌∙◌}
use lib.Seq.{length-take-le, take_all}
use native.Mathlib.Omega.{arith}
use Rattle.nametable_format.specs.Format.{header_kind}
use Rattle.nametable.specs.Answer.{header_outcome}
use Rattle.nametable_receiver.proofs.steps.announced.Goals as goal

pub slice_bounds-header-end : goal.slice_bounds-header-end
slice_bounds-header-end c = let a = c.args in sym (length-take-le a.came a.header.now (omega arith))

pub returns : goal.returns
returns c =
    let a = c.args in
    c.header-2.ensures ∙ ap (header_outcome header_kind) (sym (take_all a.came a.header.now (omega arith)))
