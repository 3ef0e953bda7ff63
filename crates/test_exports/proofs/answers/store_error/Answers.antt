-- `answers::store_error` meets its contract: the number is that of the code.
use Rattle.test_exports.proofs.answers.store_error.Goals as goal

pub returns : goal.returns
returns c = rw (← c.from.ensures) c.store.ensures
