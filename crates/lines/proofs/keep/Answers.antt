-- `keep` meets its contract: the part is copied behind the bytes held, as far as there is room.
use Rattle.lines.proofs.Holding.{kept-front}
use Rattle.lines.proofs.keep.Goals as goal

pub returns-clause-line_after : goal.returns-clause-line_after
returns-clause-line_after c =
    let a = c.args in
    kept-front a.line.now a.held a.part.now c.min-end.result c.requires c.min-end.ensures _ c.copy_from_slice.ensures.after
