-- `encode_checked` meets its contract: each test answers in its turn, and what passes them all is stored and marked.
use mathlib.Core.Path.{sym, ap, ◌∙◌}
use native.Mathlib.Omega.{arith}
use Rattle.basis.specs.Outcome.{done, outcome_by}
use Rattle.basis.proofs.Outcome.{stop-given, pass-given, pass_below, refusal_is, refusal-leaves, done-leaves}
use Rattle.basis.proofs.Parts.{front_long}
use Rattle.altdude.specs.Encoding.{label_of}
use Rattle.altdude.specs.Answer.{label_outcome}
use Rattle.altdude.proofs.EncodeLaws.{label-short}
use Rattle.altdude.proofs.MarkLaws.{raised-front}
use Rattle.basis.proofs.Clauses.{two_clauses}
use Rattle.altdude.proofs.encode_checked.Goals as goal

pub returns-then-edge : goal.returns-then-edge
unfolding outcome_by
returns-then-edge c =
    two_clauses (λ a b. record { result_value = a; label_after = b }) (refusal-leaves (label_outcome _) _ _ _ 5 0 (refusal_is c.at.ensures) (stop-given 5 0 _ _ _ c.text_has_edge_hyphen-edge.ensures c.if-edge.true))

pub slice_bounds-raise_marked-end-2 : goal.slice_bounds-raise_marked-end-2
slice_bounds-raise_marked-end-2 c =
    let t = c.args.text.now in
    front_long _ (label_of t) _ _ c.put_label-count.ensures.value c.put_label-count.ensures.label_after

pub returns : goal.returns
unfolding outcome_by
returns c =
    two_clauses (λ a b. record { result_value = a; label_after = b }) (done-leaves (label_outcome _) _ _ _ c.put_label-count.result
    (pass-given 5 0 _ _ _ c.text_has_edge_hyphen-edge.ensures c.if-edge.false ∙ pass_below 3 0 _ 63 _ (label-short _ _ c.label_length-length.ensures (omega arith))
    ∙ ap done (sym c.put_label-count.ensures.value))
    (raised-front _ _ _ _ _ c.put_label-count.ensures.value (rw (← c.put_label-count.ensures.value) at c.put_label-count.ensures.label_after) _ c.raise_marked.ensures))
