-- `decode` meets its contract: each test answers in its turn, and what passes them all is stored.
use mathlib.Core.Path.{◌≡◌, sym, ap, ◌∙◌}
use mathlib.Core.Bool.{false, not}
use native.Mathlib.Omega.{arith}
use lib.ListN.{length}
use borrow.Author.Tests.{not-false}
use borrow.Author.Rules.{rules}
use Rattle.basis.specs.Outcome.{done, outcome_by}
use Rattle.basis.proofs.Outcome.{stop-given, pass-given, stop-found, pass-found, refusal_is, handed_on, refusal-leaves, done-leaves}
use Rattle.utf16.specs.Answer.{points_outcome}
use Rattle.labels.proofs.FirstTests.{check-stops, check-passes, label-checked}
use Rattle.altdude.specs.Answer.{decode_outcome}
use Rattle.basis.proofs.Clauses.{two_clauses}
use Rattle.altdude.proofs.decode.Goals as goal

pub returns-in_err-check_label : goal.returns-in_err-check_label
unfolding outcome_by decode_outcome
returns-in_err-check_label c =
    two_clauses (λ a b. record { result_value = a; text_after = b }) (refusal-leaves (decode_outcome _ c.args.label.now) _ _ _ _ _ (ap points_outcome (handed_on c.from_residual.ensures)) (check-stops _ _ c.check_label.ensures _ c.in_err-check_label.was))

pub returns-then-bad-label : goal.returns-then-bad-label
unfolding outcome_by decode_outcome
returns-then-bad-label c =
    let l = c.args.label.now in
    two_clauses (λ a b. record { result_value = a; text_after = b }) (refusal-leaves (decode_outcome _ l) _ _ _ 7 c.first_outside-bad.result (refusal_is c.at.ensures)
    (check-passes _ _ c.check_label.ensures _ c.in_ok-check_label.was ∙ stop-found 7 (length l) _ _ _ c.first_outside-bad.ensures (omega arith)))

pub returns-then-edge_hyphen : goal.returns-then-edge_hyphen
unfolding outcome_by decode_outcome
returns-then-edge_hyphen c =
    let l = c.args.label.now in
    two_clauses (λ a b. record { result_value = a; text_after = b }) (refusal-leaves (decode_outcome _ l) _ _ _ 5 0 (refusal_is c.at-then-edge_hyphen.ensures)
    (check-passes _ _ c.check_label.ensures _ c.in_ok-check_label.was ∙ pass-found 7 (length l) _ _ _ c.first_outside-bad.ensures (omega arith)
    ∙ stop-given 5 0 _ _ _ c.label_has_edge_hyphen-edge_hyphen.ensures c.if-edge_hyphen.true))

pub returns-then-not-readable : goal.returns-then-not-readable
unfolding outcome_by decode_outcome
returns-then-not-readable c =
    let l = c.args.label.now in
    let no : c.label_has_edge_hyphen-edge_hyphen.result ≡ false = search rules in
    two_clauses (λ a b. record { result_value = a; text_after = b }) (refusal-leaves (decode_outcome _ l) _ _ _ 9 0 (refusal_is c.at-then-not-readable.ensures)
    (check-passes _ _ c.check_label.ensures _ c.in_ok-check_label.was ∙ pass-found 7 (length l) _ _ _ c.first_outside-bad.ensures (omega arith)
    ∙ pass-given 5 0 _ _ _ c.label_has_edge_hyphen-edge_hyphen.ensures no ∙ stop-given 9 0 _ _ _ (ap not c.is_readable-readable.ensures) c.if-not-readable.true-raw))

pub put_text-requires : goal.put_text-requires
put_text-requires c =
    let checked = label-checked _ c.in_ok-check_label.was _ _ c.check_label.ensures in
    record {
      label_value = sym c.is_readable-readable.ensures ∙ not-false _ c.if-not-readable.false-raw;
      label_in_bounds = omega (arith, checked.room, checked.short);
    }

pub returns : goal.returns
unfolding outcome_by decode_outcome
returns c =
    let l = c.args.label.now in
    two_clauses (λ a b. record { result_value = a; text_after = b }) (done-leaves (decode_outcome _ l) _ _ _ c.put_text.result
    (check-passes _ _ c.check_label.ensures _ c.in_ok-check_label.was ∙ pass-found 7 (length l) _ _ _ c.first_outside-bad.ensures (omega arith)
    ∙ pass-given 5 0 _ _ _ c.label_has_edge_hyphen-edge_hyphen.ensures c.if-edge_hyphen.false ∙ pass-given 9 0 _ _ _ (ap not c.is_readable-readable.ensures) c.if-not-readable.false-raw
    ∙ ap done (sym c.put_text.ensures.value))
    (rw (← c.put_text.ensures.value) at c.put_text.ensures.text_after))
