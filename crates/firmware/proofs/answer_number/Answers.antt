-- `answer_number` meets its contract: a count of at most 252, or an error's number, at most 16.
use native.Mathlib.Omega.{arith}
use Rattle.basis.specs.Outcome.{count_of, outcome_by}
use Rattle.basis.proofs.Outcome.{number-place}
use Rattle.firmware.specs.Answer.{answer_of}
use Rattle.firmware.proofs.answer_number.Goals as goal

pub overflow_cast-result : goal.overflow_cast-result
unfolding outcome_by count_of
overflow_cast-result c =
    let few = rw c.in-Ok.is at c.requires in
    record { fits = omega arith }

pub overflow_add-result : goal.overflow_add-result
overflow_add-result c = record { fits = omega (arith, c.from.ensures, (number-place c.in-Err.refusal.code).1) }

pub returns-in-Ok : goal.returns-in-Ok
unfolding outcome_by answer_of
returns-in-Ok c = rw c.in-Ok.is

pub returns-in-Err : goal.returns-in-Err
unfolding outcome_by answer_of
returns-in-Err c = rw (c.in-Err.is, c.from.ensures)
