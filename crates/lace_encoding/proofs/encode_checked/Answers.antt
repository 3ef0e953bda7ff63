-- `encode_checked` meets its contract: each test answers in its turn, and what passes them is handed on. The converter is done with a text of at most 34 points.
use mathlib.Core.Path.{◌≡◌, ap, ◌∙◌}
use mathlib.Core.Bool.{false}
use borrow.Author.Rules.{rules}
use native.Mathlib.Omega.{arith}
use Rattle.basis.specs.Outcome.{outcome_by}
use Rattle.basis.proofs.Outcome.{stop-given, pass-given, stop-below, refusal_is, refusal-leaves, handed-leaves}
use Rattle.ascii.specs.Ldh.{is_host_label}
use Rattle.utf16.specs.Answer.{units_outcome}
use Rattle.utf16.proofs.Converted.{converts, not-refused, units-fit, units-long, units-are, units-some}
use Rattle.lace_encoding.specs.Answer.{label_outcome}
use Rattle.lace_encoding.proofs.EncodeLaws.{by_units, label_is, text-long}
use Rattle.basis.proofs.Clauses.{two_clauses}
use Rattle.lace_encoding.proofs.encode_checked.Goals as goal

pub returns-then-host_label : goal.returns-then-host_label
unfolding outcome_by
returns-then-host_label c =
    two_clauses (λ a b. record { result_value = a; label_after = b }) (refusal-leaves (label_outcome is_host_label _) _ _ _ 6 0 (search refusal_is)
    (stop-given 6 0 _ _ _ c.text_is_host_label-host_label.ensures c.if-host_label.true))

pub returns-then-text-gt-MOST_UNITS : goal.returns-then-text-gt-MOST_UNITS
unfolding outcome_by
returns-then-text-gt-MOST_UNITS c =
    let no : c.text_is_host_label-host_label.result ≡ false = search rules in
    two_clauses (λ a b. record { result_value = a; label_after = b }) (refusal-leaves (label_outcome is_host_label _) _ _ _ 3 0 (search refusal_is)
    (pass-given 6 0 _ _ _ c.text_is_host_label-host_label.ensures no
    ∙ stop-below 3 0 _ 63 _ (text-long c.args.text.now (omega (arith, c.if-text-gt-MOST_UNITS.true)))))

pub slice_bounds-units-end : goal.slice_bounds-units-end
unfolding outcome_by
slice_bounds-units-end c = units-fit (converts _ c.requires.0 _ _ c.to_units.ensures.result_value (omega (arith, c.if-text-gt-MOST_UNITS.false)) _ _ c.to_units.ensures.units_after) (ap units_outcome c.in_ok-count.was)

pub slice_bounds-encode_units-end : goal.slice_bounds-encode_units-end
unfolding outcome_by
slice_bounds-encode_units-end c = units-long (converts _ c.requires.0 _ _ c.to_units.ensures.result_value (omega (arith, c.if-text-gt-MOST_UNITS.false)) _ _ c.to_units.ensures.units_after) (ap units_outcome c.in_ok-count.was)

pub encode_units-requires : goal.encode_units-requires
unfolding outcome_by
encode_units-requires c =
    let given = c.requires in
    (units-some (converts _ c.requires.0 _ _ c.to_units.ensures.result_value (omega (arith, c.if-text-gt-MOST_UNITS.false)) _ _ c.to_units.ensures.units_after) (ap units_outcome c.in_ok-count.was) (λ e. omega (arith, given.1)), given.2)

pub returns-in_err-count : goal.returns-in_err-count
unfolding outcome_by
returns-in_err-count c =
    absurd (not-refused (converts _ c.requires.0 _ _ c.to_units.ensures.result_value (omega (arith, c.if-text-gt-MOST_UNITS.false)) _ _ c.to_units.ensures.units_after) (ap units_outcome c.in_err-count.was))

pub returns : goal.returns
unfolding outcome_by
returns c =
    let us = units-are (converts _ c.requires.0 _ _ c.to_units.ensures.result_value (omega (arith, c.if-text-gt-MOST_UNITS.false)) _ _ c.to_units.ensures.units_after) (ap units_outcome c.in_ok-count.was) in
    two_clauses (λ a b. record { result_value = a; label_after = b }) (handed-leaves (label_outcome is_host_label _) _ _ _ _ _ _
    (pass-given _ _ _ _ _ c.text_is_host_label-host_label.ensures c.if-host_label.false ∙ by_units _ _ us)
    (label_is _ _ us) (c.encode_units.ensures.result_value, c.encode_units.ensures.label_after))
