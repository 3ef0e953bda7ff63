-- `decode_marked` meets its contract: the room for marks is tested, and then `decode` answers; of an accepted label as many marks of 0 are stored as it has points.
use mathlib.Core.Path.{refl, sym, ap, ap₂, ◌∙◌}
use native.Mathlib.Omega.{arith}
use mathlib.Core.List.{◌++◌}
use lib.ListN.{length}
use Rattle.basis.specs.Outcome.{refused, outcome_by}
use Rattle.basis.proofs.Outcome.{handed_on}
use Rattle.utf16.specs.Answer.{points_outcome}
use Rattle.ascii.specs.Ldh.{is_host_label}
use Rattle.labels.specs.Marks.{no_marks}
use Rattle.labels.proofs.MarkRoom.{room-refused, decoded-refused, decoded-done}
use Rattle.lace_decoding.specs.Decoding.{text_of, marks_of}
use Rattle.lace_decoding.specs.Answer.{decode_outcome, decode_marked_outcome}
use Rattle.lace_decoding.proofs.Lengths.{accepted-has}
use Rattle.basis.proofs.Clauses.{three_clauses}
use Rattle.lace_decoding.proofs.decode_marked.Goals as goal

pub returns-then-marks-lt-MARKS_ROOM : goal.returns-then-marks-lt-MARKS_ROOM
unfolding outcome_by decode_marked_outcome
returns-then-marks-lt-MARKS_ROOM c =
    let a = c.args in
    let l = a.label.now in
    rw c.at.ensures (three_clauses (λ a b d. record { result_value = a; text_after = b; marks_after = d }) (room-refused (decode_outcome is_host_label (length a.text.now) l) (text_of l) (marks_of l) a.text.now a.marks.now (length a.marks.now) (omega arith) (refused 1 0) refl))

pub put_no_marks-requires : goal.put_no_marks-requires
unfolding outcome_by
put_no_marks-requires c =
    omega (arith, c.if-marks-lt-MARKS_ROOM.false, (accepted-has _ _ _ (sym c.decode.ensures.result_value ∙ ap points_outcome c.in_ok-count.was)).0)

pub returns-in_err-count : goal.returns-in_err-count
unfolding outcome_by decode_marked_outcome
returns-in_err-count c =
    let a = c.args in
    let l = a.label.now in
    three_clauses (λ a b d. record { result_value = a; text_after = b; marks_after = d }) (decoded-refused (decode_outcome is_host_label (length a.text.now) l) (text_of l) (marks_of l) a.text.now a.marks.now (length a.marks.now) (omega (arith, c.if-marks-lt-MARKS_ROOM.false))
    _ c.decode.ensures.text_after _ _ (sym c.decode.ensures.result_value ∙ ap points_outcome c.in_err-count.was) _ (ap points_outcome (handed_on c.from_residual.ensures)))

pub returns : goal.returns
unfolding outcome_by decode_marked_outcome marks_of
returns c =
    let a = c.args in
    let l = a.label.now in
    let answered = sym c.decode.ensures.result_value ∙ ap points_outcome c.in_ok-count.was in
    let count = (accepted-has _ _ _ answered).1 in
    three_clauses (λ a b d. record { result_value = a; text_after = b; marks_after = d }) (decoded-done (decode_outcome is_host_label (length a.text.now) l) (text_of l) (marks_of l) a.text.now a.marks.now (length a.marks.now) (omega (arith, c.if-marks-lt-MARKS_ROOM.false))
    _ c.decode.ensures.text_after _ answered _ (c.put_no_marks.ensures ∙ ap₂ ◌++◌ (ap no_marks count) refl))
