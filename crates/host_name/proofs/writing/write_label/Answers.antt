-- `writing::write_label` meets its contract: LACE answers, or the host label is copied and its beginning looked at.
use borrow.Author.Rules.{rules}
use mathlib.Core.Bool.{true}
use mathlib.Core.Path.{◌≡◌, refl, sym, ap, ◌∙◌}
use lib.ListN.{length, drop}
use borrow.Author.Tests.{not-true}
use native.Mathlib.Omega.{arith}
use Rattle.basis.specs.Outcome.{outcome_by}
use Rattle.basis.proofs.Outcome.{refusal_is}
use Rattle.basis.proofs.Parts.{front-is}
use Rattle.ascii.specs.Prefix.{has_prefix}
use Rattle.ascii.proofs.HostLabel.{is-host}
use Rattle.lace_format.specs.Prefix.{prefix}
use Rattle.host_name.proofs.PartLaws.{by-lace, taken-for-lace, copied}
use Rattle.basis.proofs.Clauses.{two_clauses}
use Rattle.host_name.proofs.writing.write_label.Goals as goal

pub returns-then-not-text_is_host_label : goal.returns-then-not-text_is_host_label
returns-then-not-text_is_host_label c =
    two_clauses (λ a b. record { result_value = a; by_index = b }) (by-lace c.args.part.now (sym c.text_is_host_label.ensures ∙ not-true _ c.if-not-text_is_host_label.true-raw) _ (length c.args.label.now) _ _ c.requires c.encode.ensures.result_value c.encode.ensures.label_after)

pub copy_part-requires : goal.copy_part-requires
copy_part-requires c =
    let yes : c.text_is_host_label.result ≡ true = search rules in
    let host = sym c.text_is_host_label.ensures ∙ yes in
    record {
      part_value = host;
      part_in_bounds = omega (arith, (is-host c.args.part.now host).short, c.requires);
    }

pub returns-then-has_prefix : goal.returns-then-has_prefix
unfolding outcome_by
returns-then-has_prefix c =
    let yes : c.text_is_host_label.result ≡ true = search rules in
    let part = c.args.part.now in
    let begins = ap (has_prefix prefix) (sym (front-is (length part) part (drop (length part) c.args.label.now) _ refl c.copy_part.ensures)) ∙ sym c.has_prefix.ensures ∙ c.if-has_prefix.true in
    two_clauses (λ a b. record { result_value = a; by_index = b }) (taken-for-lace part (sym c.text_is_host_label.ensures ∙ yes) begins _ (refusal_is c.at.ensures) _ _)

pub returns : goal.returns
unfolding outcome_by
returns c =
    let yes : c.text_is_host_label.result ≡ true = search rules in
    let part = c.args.part.now in
    let begins = ap (has_prefix prefix) (sym (front-is (length part) part (drop (length part) c.args.label.now) _ refl c.copy_part.ensures)) ∙ sym c.has_prefix.ensures ∙ c.if-has_prefix.false in
    two_clauses (λ a b. record { result_value = a; by_index = b }) (copied part (sym c.text_is_host_label.ensures ∙ yes) begins _ _ c.copy_part.ensures)
