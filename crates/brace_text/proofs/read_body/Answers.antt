-- `read_body` meets its contract: the room is tested, then the text is stored.
use Rattle.basis.specs.Outcome.{outcome_by}
use Rattle.basis.proofs.Outcome.{refused-leaves}
use Rattle.brace_text.specs.Answer.{body_outcome}
use Rattle.brace_text.proofs.Head.{body_refused, body-leaves}
use Rattle.basis.proofs.Clauses.{two_clauses}
use Rattle.brace_text.proofs.read_body.Goals as goal

pub returns-then-units-body : goal.returns-then-units-body
unfolding outcome_by
returns-then-units-body c =
    rw c.at.ensures (two_clauses (λ a b. record { result_value = a; units_after = b }) (refused-leaves (body_outcome _ _) _ _ 1 0 (body_refused _ _ c.if-units-body.true)))

pub returns : goal.returns
unfolding outcome_by
returns c =
    two_clauses (λ a b. record { result_value = a; units_after = b }) (body-leaves _ _ _ _ c.if-units-body.false (c.put_body-count.ensures.value, c.put_body-count.ensures.units_after))
