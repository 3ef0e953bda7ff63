-- `put_symbols` meets its contract: each test answers in its turn.
use mathlib.Core.Path.{refl}
use native.Mathlib.Omega.{arith}
use Rattle.basis.specs.Outcome.{outcome_by}
use Rattle.basis.proofs.Outcome.{refusal-leaves, refusal_is, handed-leaves}
use Rattle.brace_symbols.specs.Answer.{encode_outcome}
use Rattle.brace_symbols.proofs.Labels.{stop-empty, stop-unpaired, by_length}
use Rattle.basis.proofs.Clauses.{two_clauses}
use Rattle.brace_symbols.proofs.put_symbols.Goals as goal

pub returns-then-units-eq0 : goal.returns-then-units-eq0
unfolding outcome_by
returns-then-units-eq0 c =
    two_clauses (λ a b. record { result_value = a; symbols_after = b }) (refusal-leaves (encode_outcome _ _) _ _ _ 2 0 (refusal_is c.at-then-units-eq0.ensures) (stop-empty _ _ (omega arith) c.if-units-eq0.true))

pub returns-then-unpaired-units : goal.returns-then-unpaired-units
unfolding outcome_by
returns-then-unpaired-units c =
    two_clauses (λ a b. record { result_value = a; symbols_after = b }) (refusal-leaves (encode_outcome _ _) _ _ _ 10 _ (refusal_is c.at-then-unpaired-units.ensures)
    (stop-unpaired _ _ (omega arith) c.if-units-eq0.false _ c.first_unpaired-unpaired.ensures c.if-unpaired-units.true))

pub returns : goal.returns
returns c =
    two_clauses (λ a b. record { result_value = a; symbols_after = b }) (handed-leaves (encode_outcome _ _) _ _ _ _ _ _
    (by_length _ _ (omega arith) c.if-units-eq0.false _ c.first_unpaired-unpaired.ensures c.if-unpaired-units.false (omega arith)) refl (c.put_short.ensures.result_value, c.put_short.ensures.symbols_after))
