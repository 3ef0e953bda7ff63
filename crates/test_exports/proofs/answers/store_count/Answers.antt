-- `answers::store_count` meets its contract: by the two cases of the answer.
use Rattle.basis.specs.Outcome.{outcome_by}
use Rattle.test_exports.specs.Answer.{numbers_of}
use Rattle.test_exports.proofs.answers.store_count.Goals as goal

pub returns-in-Ok : goal.returns-in-Ok
unfolding outcome_by numbers_of
returns-in-Ok g c = rw (c.in-Ok.is, ← c.number.ensures) c.store.ensures

pub returns-in-Err : goal.returns-in-Err
unfolding outcome_by numbers_of
returns-in-Err g c = rw c.in-Err.is c.store_error.ensures
