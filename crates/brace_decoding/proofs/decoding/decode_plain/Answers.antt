-- The two tests answer in their turn, and what passes them is its own text.
use mathlib.Core.Path.{sym, ap, ◌∙◌}
use lib.ListN.{length}
use native.Mathlib.Omega.{arith}
use Rattle.basis.specs.Outcome.{outcome_by}
use Rattle.basis.proofs.Outcome.{stop-found, pass-found, stop-given, pass-given, refused-leaves, done-leaves}
use Rattle.brace_decoding.specs.Answer.{decode_outcome}
use Rattle.brace_decoding.proofs.Plain.{unsigned-text}
use Rattle.brace_decoding.proofs.DecodeLaws.{all-ldh, copied-text, plain-outcome, plain_done}
use Rattle.basis.proofs.Clauses.{two_clauses}
use Rattle.brace_decoding.proofs.decoding.decode_plain.Goals as goal

pub returns-then-bad-label : goal.returns-then-bad-label
unfolding outcome_by
returns-then-bad-label c =
    let l = c.args.label.now in
    rw c.at.ensures (two_clauses (λ a b. record { result_value = a; units_after = b }) (refused-leaves (decode_outcome _ l) _ _ 7 c.first_not_ldh-bad.result
    (plain-outcome _ l c.requires.in_bounds c.requires.label_value ∙ stop-found 7 (length l) _ _ _ c.first_not_ldh-bad.ensures c.if-bad-label.true)))

pub returns-then-edge_hyphen : goal.returns-then-edge_hyphen
unfolding outcome_by
returns-then-edge_hyphen c =
    let l = c.args.label.now in
    rw c.at-then-edge_hyphen.ensures (two_clauses (λ a b. record { result_value = a; units_after = b }) (refused-leaves (decode_outcome _ l) _ _ 5 0
    (plain-outcome _ l c.requires.in_bounds c.requires.label_value ∙ pass-found 7 (length l) _ _ _ c.first_not_ldh-bad.ensures (omega arith)
    ∙ stop-given 5 0 _ _ _ c.label_has_edge_hyphen-edge_hyphen.ensures c.if-edge_hyphen.true)))

pub returns : goal.returns
unfolding outcome_by
returns c =
    let l = c.args.label.now in
    let ldh = all-ldh l _ c.first_not_ldh-bad.ensures c.if-bad-label.false in
    let text = unsigned-text l c.requires.label_value in
    two_clauses (λ a b. record { result_value = a; units_after = b }) (done-leaves (decode_outcome _ l) _ _ _ (length l)
    (plain-outcome _ l c.requires.in_bounds c.requires.label_value ∙ pass-found 7 (length l) _ _ _ c.first_not_ldh-bad.ensures c.if-bad-label.false
    ∙ pass-given 5 0 _ _ _ c.label_has_edge_hyphen-edge_hyphen.ensures c.if-edge_hyphen.false
    ∙ plain_done _ l c.requires.in_bounds c.requires.label_value ldh (sym c.label_has_edge_hyphen-edge_hyphen.ensures ∙ c.if-edge_hyphen.false))
    (copied-text _ _ _ _ _ (sym text) (ap length (sym text)) c.copy_bytes.ensures))
