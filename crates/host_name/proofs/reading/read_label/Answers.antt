-- `reading::read_label` meets its contract: an empty label is refused, and any other read by its beginning.
use mathlib.Core.Path.{sym, ◌∙◌}
use mathlib.Core.Bool.{true, false}
use native.Mathlib.Omega.{arith}
use Rattle.basis.specs.Outcome.{outcome_by}
use Rattle.basis.proofs.Outcome.{refusal_is, refusal_is}
use Rattle.host_name.specs.Answer.{part_text, part_read}
use Rattle.host_name.proofs.PartLaws.{refused-part, read-empty, read_as, text-as}
use Rattle.basis.proofs.Clauses.{two_clauses}
use Rattle.host_name.proofs.reading.read_label.Goals as goal

pub returns-then-label-eq0 : goal.returns-then-label-eq0
unfolding outcome_by
returns-then-label-eq0 c =
    two_clauses (λ a b. record { result_value = a; by_index = b }) (refused-part (part_read c.args.label.now) _ (part_text c.args.label.now) c.args.text.now _ (read-empty _ c.if-label-eq0.true) (refusal_is c.at.ensures))

pub returns-then-begins : goal.returns-then-begins
returns-then-begins c =
    let label = c.args.label.now in
    let begins = sym c.has_prefix-begins.ensures ∙ c.if-begins.true in
    two_clauses (λ a b. record { result_value = a; by_index = b }) (rw (read_as label true begins (λ z. omega arith), text-as label true begins) (c.read_lace.ensures.result_value, c.read_lace.ensures.by_index))

pub returns : goal.returns
returns c =
    let label = c.args.label.now in
    let begins = sym c.has_prefix-begins.ensures ∙ c.if-begins.false in
    two_clauses (λ a b. record { result_value = a; by_index = b }) (rw (read_as label false begins (λ z. omega arith), text-as label false begins) (c.read_plain.ensures.result_value, c.read_plain.ensures.by_index))
