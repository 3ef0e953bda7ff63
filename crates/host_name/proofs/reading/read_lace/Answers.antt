-- `reading::read_lace` meets its contract: LACE's refusal stays, and so does its answer if the text has no dot.
use mathlib.Core.Path.{refl, sym, ap, ◌∙◌}
use lib.ListN.{length}
use Rattle.basis.specs.Outcome.{outcome_by}
use Rattle.basis.proofs.Outcome.{refusal_is, handed_on, values-fit, values-long}
use Rattle.utf16.specs.Answer.{points_outcome}
use Rattle.lace_decoding.proofs.Lengths.{accepted-has}
use Rattle.host_name.proofs.Parts.{holds-dot}
use Rattle.host_name.proofs.PartLaws.{lace-refused, lace-dotted, lace-done}
use Rattle.basis.proofs.Clauses.{two_clauses}
use Rattle.host_name.proofs.reading.read_lace.Goals as goal

pub returns-in_err-count : goal.returns-in_err-count
unfolding outcome_by
returns-in_err-count c =
    rw (handed_on c.from_residual.ensures ∙ sym c.in_err-count.was) (two_clauses (λ a b. record { result_value = a; by_index = b }) (lace-refused c.args.label.now (length c.args.text.now) c.requires _ _ _ c.decode.ensures.result_value c.decode.ensures.text_after (ap points_outcome c.in_err-count.was)))

pub slice_bounds-contains-end : goal.slice_bounds-contains-end
unfolding outcome_by
slice_bounds-contains-end c =
    let e = sym c.decode.ensures.result_value ∙ ap points_outcome c.in_ok-count.was in
    values-fit _ _ _ _ _ e (accepted-has _ _ _ e).1 c.decode.ensures.text_after

pub slice_bounds-contains-end-2 : goal.slice_bounds-contains-end-2
unfolding outcome_by
slice_bounds-contains-end-2 c =
    let e = sym c.decode.ensures.result_value ∙ ap points_outcome c.in_ok-count.was in
    values-long _ _ _ _ _ e (accepted-has _ _ _ e).1 c.decode.ensures.text_after

pub returns-then-contains : goal.returns-then-contains
unfolding outcome_by
returns-then-contains c =
    two_clauses (λ a b. record { result_value = a; by_index = b }) (lace-dotted c.args.label.now (length c.args.text.now) c.requires _ _ _ c.decode.ensures.result_value c.decode.ensures.text_after _ (ap points_outcome c.in_ok-count.was)
    (sym (holds-dot _) ∙ sym c.contains.ensures.value ∙ c.if-contains.true) _ (refusal_is c.at.ensures))

pub returns : goal.returns
unfolding outcome_by
returns c =
    let e = sym (ap points_outcome c.in_ok-count.was) ∙ c.decode.ensures.result_value in
    two_clauses (λ a b. record { result_value = a; by_index = b }) (lace-done c.args.label.now (length c.args.text.now) c.requires _ _ _ e c.decode.ensures.text_after _ refl (sym (holds-dot _) ∙ sym c.contains.ensures.value ∙ c.if-contains.false))
