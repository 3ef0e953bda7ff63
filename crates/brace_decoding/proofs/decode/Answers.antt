-- The first tests answer, and then the reader with the signature or without it.
use mathlib.Core.Path.{sym, ap, ◌∙◌}
use Rattle.basis.specs.Outcome.{outcome_by}
use Rattle.basis.proofs.Outcome.{refusal-leaves, handed_on}
use Rattle.utf16.specs.Answer.{units_outcome}
use Rattle.labels.proofs.FirstTests.{check-stops, label-checked}
use Rattle.brace_format.specs.Signature.{is_signed}
use Rattle.brace_decoding.specs.Answer.{decode_outcome}
use Rattle.brace_decoding.proofs.DecodeLaws.{label-sizes}
use Rattle.basis.proofs.Lists.{map-self}
use Rattle.basis.proofs.Clauses.{two_clauses}
use Rattle.brace_decoding.proofs.decode.Goals as goal

pub returns-in_err-check_label : goal.returns-in_err-check_label
unfolding outcome_by decode_outcome
returns-in_err-check_label c =
    two_clauses (λ a b. record { result_value = a; units_after = b }) (refusal-leaves (decode_outcome _ c.args.label.now) _ _ _ _ _ (ap units_outcome (handed_on c.from_residual.ensures))
    (check-stops _ _ c.check_label.ensures _ c.in_err-check_label.was))

pub decode_signed-requires : goal.decode_signed-requires
decode_signed-requires c =
    record {
      in_bounds = label-sizes _ _ (label-checked _ c.in_ok-check_label.was _ _ c.check_label.ensures);
      label_value = ap is_signed (sym (map-self c.args.label.now)) ∙ sym c.is_signed.ensures ∙ cc;
    }

pub decode_plain-requires : goal.decode_plain-requires
decode_plain-requires c =
    record {
      in_bounds = label-sizes _ _ (label-checked _ c.in_ok-check_label.was _ _ c.check_label.ensures);
      label_value = ap is_signed (sym (map-self c.args.label.now)) ∙ sym c.is_signed.ensures ∙ cc;
    }
