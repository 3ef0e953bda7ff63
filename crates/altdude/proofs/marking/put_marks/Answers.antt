-- `marking::put_marks` meets its contract. What is left of the marks is still to be stored.
use Rattle.altdude.proofs.MarkLaws.{showing-start, showing-turn, showing-end}
use Rattle.altdude.proofs.marking.put_marks.Goals as goal

pub loop-byte-init : goal.loop-byte-init
loop-byte-init c = showing-start _ _

pub loop-byte-preserved : goal.loop-byte-preserved
loop-byte-preserved c =
    showing-turn _ _ _ _ _ c.loop-byte.invariant c.loop-byte-test.true c.put_mark-at.ensures

pub shape_of-marks : goal.shape_of-marks
shape_of-marks c = c.loop-byte.invariant.storing.long

pub returns : goal.returns
returns c = showing-end _ _ _ _ _ c.loop-byte.invariant c.loop-byte-test.false c.requires
