-- `marking::raise_marked` meets its contract. What is left of the label with marks is still to be stored.
use mathlib.Core.Path.{ap, ◌∙◌}
use lib.ListN.{length}
use Rattle.std.proofs.lemmas.List.{set-get_or}
use native.Mathlib.Omega.{arith}
use Rattle.altdude.proofs.MarkLaws.{ended-count, ended-le, raising-start, raising-turn, raising-over, raising-end}
use Rattle.altdude.proofs.marking.raise_marked.Goals as goal

pub loop-byte-init : goal.loop-byte-init
loop-byte-init c = raising-start _ _

pub shape_of-label-then-marks-next : goal.shape_of-label-then-marks-next
shape_of-label-then-marks-next c = ap length (set-get_or c.loop-byte.label c.loop-byte.byte-index 0) ∙ c.loop-byte.invariant.storing.long

pub returns-then-marks-next : goal.returns-then-marks-next
returns-then-marks-next c =
    let l = c.loop-byte in
    set-get_or l.label l.byte-index 0 ∙ raising-over _ _ _ _ _ l.invariant (omega (arith, l.invariant.storing.long)) c.if-marks-next.true

pub overflow_add-next : goal.overflow_add-next
overflow_add-next c = record { fits = omega (arith, c.loop-byte.invariant.few, ended-le _ _ c.ends_item.ensures _ c.from-ended.ensures) }

pub loop-byte-preserved : goal.loop-byte-preserved
loop-byte-preserved c =
    raising-turn _ _ _ _ _ c.loop-byte.invariant (omega (arith, c.loop-byte.invariant.storing.long)) _ c.marked_byte.ensures _ (ended-count _ _ c.ends_item.ensures _ c.from-ended.ensures) (ended-le _ _ c.ends_item.ensures _ c.from-ended.ensures)

pub shape_of-label : goal.shape_of-label
shape_of-label c = c.loop-byte.invariant.storing.long

pub returns : goal.returns
returns c = raising-end _ _ _ _ _ c.loop-byte.invariant (omega (arith, c.loop-byte.invariant.storing.long))
