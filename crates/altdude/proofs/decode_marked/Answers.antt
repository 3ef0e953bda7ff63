-- `decode_marked` meets its contract: the room for marks is tested, and then `decode` answers; an accepted label's marks are stored.
use mathlib.Core.Path.{sym, ap, ◌∙◌}
use native.Mathlib.Omega.{arith}
use lib.ListN.{length}
use Rattle.basis.specs.Outcome.{outcome_by}
use Rattle.basis.proofs.Outcome.{refusal_is, handed_on}
use Rattle.utf16.specs.Answer.{points_outcome}
use Rattle.labels.proofs.MarkRoom.{room-refused, decoded-refused, decoded-done}
use Rattle.altdude.specs.Decoding.{text_of}
use Rattle.altdude.specs.Marks.{marks_of}
use Rattle.altdude.specs.Answer.{decode_outcome, decode_marked_outcome}
use Rattle.altdude.proofs.MarkLaws.{accepted-has, as-many-marks}
use Rattle.basis.proofs.Clauses.{three_clauses}
use Rattle.altdude.proofs.decode_marked.Goals as goal

pub returns-then-marks-lt63 : goal.returns-then-marks-lt63
unfolding outcome_by decode_marked_outcome
returns-then-marks-lt63 c =
    let a = c.args in
    let l = a.label.now in
    three_clauses (λ a b d. record { result_value = a; text_after = b; marks_after = d }) (room-refused (decode_outcome (length a.text.now) l) (text_of l) (marks_of l) a.text.now a.marks.now (length a.marks.now) (omega arith) _ (refusal_is c.at.ensures))

pub put_marks-requires : goal.put_marks-requires
unfolding outcome_by
put_marks-requires c =
    omega (arith, (accepted-has _ _ _ (sym c.decode.ensures.result_value ∙ ap points_outcome c.in_ok-count.was)).0)

pub returns-in_err-count : goal.returns-in_err-count
unfolding outcome_by decode_marked_outcome
returns-in_err-count c =
    let a = c.args in
    let l = a.label.now in
    three_clauses (λ a b d. record { result_value = a; text_after = b; marks_after = d }) (decoded-refused (decode_outcome (length a.text.now) l) (text_of l) (marks_of l) a.text.now a.marks.now (length a.marks.now) (omega arith)
    _ c.decode.ensures.text_after _ _ (sym c.decode.ensures.result_value ∙ ap points_outcome c.in_err-count.was) _ (ap points_outcome (handed_on c.from_residual.ensures)))

pub returns : goal.returns
unfolding outcome_by decode_marked_outcome
returns c =
    let a = c.args in
    let l = a.label.now in
    let answered = sym c.decode.ensures.result_value ∙ ap points_outcome c.in_ok-count.was in
    let count = (accepted-has _ _ _ answered).1 ∙ sym (as-many-marks l) in
    three_clauses (λ a b d. record { result_value = a; text_after = b; marks_after = d }) (decoded-done (decode_outcome (length a.text.now) l) (text_of l) (marks_of l) a.text.now a.marks.now (length a.marks.now) (omega arith)
    _ c.decode.ensures.text_after _ answered _ (rw (← count) at c.put_marks.ensures))
