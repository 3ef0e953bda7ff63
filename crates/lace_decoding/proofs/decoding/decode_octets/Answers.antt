-- Each test answers in its turn, and units that pass them all become points.
use mathlib.Core.Path.{◌≡◌, sym, ap, ◌∙◌}
use mathlib.Core.Bool.{true, not}
use borrow.Author.Rules.{rules}
use native.Mathlib.Omega.{arith}
use Rattle.basis.specs.Outcome.{outcome_by}
use Rattle.basis.proofs.Outcome.{stop-if, pass-if, stop-given, pass-given, refusal_is, refusal-leaves, handed-leaves}
use Rattle.utf16.specs.Units.{to_points}
use Rattle.lace_decoding.specs.Internal.{octets_outcome}
use Rattle.lace_decoding.proofs.DecodeLaws.{units-front, some-unpaired, none-unpaired, host-label-is, points-done}
use Rattle.basis.proofs.Clauses.{two_clauses}
use Rattle.lace_decoding.proofs.decoding.decode_octets.Goals as goal

pub returns-then-not-meant : goal.returns-then-not-meant
unfolding outcome_by octets_outcome
returns-then-not-meant c =
    two_clauses (λ a b. record { result_value = a; text_after = b }) (refusal-leaves (octets_outcome _) _ _ _ 9 0 (search refusal_is)
    (stop-given 9 0 _ _ _ (ap not c.stand_for_units-meant.ensures) c.if-not-meant.true-raw))

pub returns-then-unpaired-n : goal.returns-then-unpaired-n
unfolding outcome_by octets_outcome
returns-then-unpaired-n c =
    let meant : c.stand_for_units-meant.result ≡ true = search rules in
    two_clauses (λ a b. record { result_value = a; text_after = b }) (refusal-leaves (octets_outcome _) _ _ _ 9 0 (search refusal_is)
    (pass-given 9 0 _ _ _ (ap not c.stand_for_units-meant.ensures) (ap not meant)
    ∙ stop-if 9 0 _ _ (some-unpaired _ _ _ _ (c.put_units-n.ensures.value, c.put_units-n.ensures.units_after) _ c.first_unpaired-unpaired.ensures (omega arith))))

pub returns-then-host_label : goal.returns-then-host_label
unfolding outcome_by octets_outcome
returns-then-host_label c =
    let meant : c.stand_for_units-meant.result ≡ true = search rules in
    two_clauses (λ a b. record { result_value = a; text_after = b }) (refusal-leaves (octets_outcome _) _ _ _ 6 0 (search refusal_is)
    (pass-given 9 0 _ _ _ (ap not c.stand_for_units-meant.ensures) (ap not meant)
    ∙ pass-if 9 0 _ _ (none-unpaired _ _ _ _ (c.put_units-n.ensures.value, c.put_units-n.ensures.units_after) _ c.first_unpaired-unpaired.ensures (omega arith))
    ∙ stop-given 6 0 _ _ _ (host-label-is _ _ _ _ (c.put_units-n.ensures.value, c.put_units-n.ensures.units_after) _ c.units_are_host_label-host_label.ensures) c.if-host_label.true))

pub returns : goal.returns
unfolding octets_outcome
returns c =
    let meant : c.stand_for_units-meant.result ≡ true = search rules in
    two_clauses (λ a b. record { result_value = a; text_after = b }) (handed-leaves (octets_outcome _) _ _ _ _ _ _
    (pass-given 9 0 _ _ _ (ap not c.stand_for_units-meant.ensures) (ap not meant)
    ∙ pass-if 9 0 _ _ (none-unpaired _ _ _ _ (c.put_units-n.ensures.value, c.put_units-n.ensures.units_after) _ c.first_unpaired-unpaired.ensures (omega arith))
    ∙ pass-given 6 0 _ _ _ (host-label-is _ _ _ _ (c.put_units-n.ensures.value, c.put_units-n.ensures.units_after) _ c.units_are_host_label-host_label.ensures) c.if-host_label.false
    ∙ sym (points-done _ _ _ _ (c.put_units-n.ensures.value, c.put_units-n.ensures.units_after) _ c.first_unpaired-unpaired.ensures (omega arith) _ c.requires))
    (ap to_points (sym (units-front _ _ _ _ (c.put_units-n.ensures.value, c.put_units-n.ensures.units_after)))) (c.to_points.ensures.result_value, c.to_points.ensures.points_after))
