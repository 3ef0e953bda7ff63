-- `encoding::put_short` meets its contract: a plain text itself, any other in its style.
use mathlib.Core.Path.{sym, ◌∙◌}
use native.Mathlib.Omega.{arith}
use Rattle.basis.specs.Outcome.{outcome_by}
use Rattle.basis.proofs.Outcome.{refusal-leaves, refusal_is}
use Rattle.brace_symbols.proofs.Signed.{plain-ldh}
use Rattle.brace_symbols.proofs.Labels.{plain-symbols, signed-symbols, long-refused, short-put}
use Rattle.basis.proofs.Clauses.{two_clauses}
use Rattle.brace_symbols.proofs.encoding.put_short.Goals as goal

pub put_plain-count-requires : goal.put_plain-count-requires
put_plain-count-requires c =
    record {
      units_value = plain-ldh _ (sym c.is_plain.ensures ∙ c.if-is_plain.true);
      units_in_bounds = omega arith;
    }

pub returns-then-is_plain : goal.returns-then-is_plain
unfolding outcome_by
returns-then-is_plain c =
    two_clauses (λ a b. record { result_value = a; symbols_after = b }) (short-put _ _ (plain-symbols _ (sym c.is_plain.ensures ∙ c.if-is_plain.true)) (omega arith) _ _ _ (c.put_plain-count.ensures.value, c.put_plain-count.ensures.symbols_after))

pub returns-then-signed_length-gt63 : goal.returns-then-signed_length-gt63
unfolding outcome_by
returns-then-signed_length-gt63 c =
    two_clauses (λ a b. record { result_value = a; symbols_after = b }) (refusal-leaves _ _ _ _ 3 0 (refusal_is c.at.ensures)
    (long-refused _ _ (signed-symbols _ (sym c.is_plain.ensures ∙ c.if-is_plain.false) (omega arith) _ c.style_of-style.ensures) (omega (arith, c.signed_length.ensures, c.if-signed_length-gt63.true))))

pub put_signed-count-requires : goal.put_signed-count-requires
put_signed-count-requires c = omega (arith, c.signed_length.ensures, c.if-signed_length-gt63.false)

pub returns : goal.returns
unfolding outcome_by
returns c =
    two_clauses (λ a b. record { result_value = a; symbols_after = b }) (short-put _ _ (signed-symbols _ (sym c.is_plain.ensures ∙ c.if-is_plain.false) (omega arith) _ c.style_of-style.ensures) (omega (arith, c.signed_length.ensures, c.if-signed_length-gt63.false)) _ _ _ (c.put_signed-count.ensures.value, c.put_signed-count.ensures.symbols_after))
