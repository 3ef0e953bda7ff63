-- `answers::store_entry` meets its contract: by the two cases of the answer.
use Rattle.nametable.specs.Answer.{entry_outcome}
use Rattle.test_exports.specs.Answer.{entry_numbers_of}
use Rattle.test_exports.proofs.answers.store_entry.Goals as goal

pub returns-in-Ok : goal.returns-in-Ok
unfolding entry_outcome entry_numbers_of
returns-in-Ok c = rw (c.in-Ok.is, ← c.number.ensures) c.store.ensures

pub returns-in-Err : goal.returns-in-Err
unfolding entry_outcome entry_numbers_of
returns-in-Err c = rw c.in-Err.is c.store_error.ensures
