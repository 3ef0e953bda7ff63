-- `reading::read_plain` meets its contract, test by test: 3, 7, 5.
use mathlib.Core.Path.{refl, sym, ap, ◌∙◌}
use lib.ListN.{length, drop}
use borrow.Author.Tests.{not-true, not-false}
use native.Mathlib.Omega.{arith}
use Rattle.basis.specs.Outcome.{outcome_by}
use Rattle.basis.proofs.Outcome.{refusal_is}
use Rattle.basis.proofs.Parts.{front-is}
use Rattle.ascii.specs.Ldh.{is_all_ldh}
use Rattle.host_name.specs.Answer.{plain_read}
use Rattle.host_name.proofs.PartLaws.{plain-long, plain_other, plain-edge, plain_done, refused-part, done-part}
use Rattle.basis.proofs.Clauses.{two_clauses}
use Rattle.host_name.proofs.reading.read_plain.Goals as goal

pub returns-then-n-gt63 : goal.returns-then-n-gt63
unfolding outcome_by
returns-then-n-gt63 c =
    two_clauses (λ a b. record { result_value = a; by_index = b }) (refused-part (plain_read c.args.label.now) _ c.args.label.now c.args.text.now _ (plain-long c.args.label.now (omega (arith, c.if-n-gt63.true))) (refusal_is c.at.ensures))

pub returns-then-not-text_all_ldh : goal.returns-then-not-text_all_ldh
unfolding outcome_by
returns-then-not-text_all_ldh c =
    let label = c.args.label.now in
    let is = front-is (length label) label (drop (length label) c.args.text.now) _ refl c.copy_label.ensures in
    let other = ap is_all_ldh (sym is) ∙ sym c.text_all_ldh.ensures ∙ not-true _ c.if-not-text_all_ldh.true-raw in
    two_clauses (λ a b. record { result_value = a; by_index = b }) (refused-part (plain_read label) _ label c.args.text.now _ (plain_other label c.if-n-gt63.false other) (refusal_is c.at-then-not-text_all_ldh.ensures))

pub returns-then-label_has_edge_hyphen : goal.returns-then-label_has_edge_hyphen
unfolding outcome_by
returns-then-label_has_edge_hyphen c =
    let label = c.args.label.now in
    let is = front-is (length label) label (drop (length label) c.args.text.now) _ refl c.copy_label.ensures in
    let ldh = ap is_all_ldh (sym is) ∙ sym c.text_all_ldh.ensures ∙ not-false _ c.if-not-text_all_ldh.false-raw in
    two_clauses (λ a b. record { result_value = a; by_index = b }) (refused-part (plain_read label) _ label c.args.text.now _ (plain-edge label c.if-n-gt63.false ldh (sym c.label_has_edge_hyphen.ensures ∙ c.if-label_has_edge_hyphen.true)) (refusal_is c.at-then-label_has_edge_hyphen.ensures))

pub returns : goal.returns
unfolding outcome_by
returns c =
    let label = c.args.label.now in
    let is = front-is (length label) label (drop (length label) c.args.text.now) _ refl c.copy_label.ensures in
    let ldh = ap is_all_ldh (sym is) ∙ sym c.text_all_ldh.ensures ∙ not-false _ c.if-not-text_all_ldh.false-raw in
    two_clauses (λ a b. record { result_value = a; by_index = b }) (done-part (plain_read label) label c.args.text.now _ _ (plain_done label c.if-n-gt63.false ldh (sym c.label_has_edge_hyphen.ensures ∙ c.if-label_has_edge_hyphen.false)) c.copy_label.ensures)
