-- What a check says, as an outcome.
use Rattle.std.specs.Prelude.{Result}
use Rattle.basis.specs.Outcome.{Outcome, outcome_by}
use Rattle.basis.specs.declared.Refusal.{Refusal}

-- done, with nothing to count, or refused with the error's number and position
abbrev pub check_outcome : Result (Unit {0}) Refusal → Outcome
check_outcome answer = outcome_by (λ _. 0) answer
