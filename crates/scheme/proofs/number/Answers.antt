-- `number` meets its contract, scheme by scheme.
use Rattle.scheme.specs.Naming.{row_of, number_of}
use Rattle.scheme.proofs.number.Goals as goal

pub returns-in-Altdude : goal.returns-in-Altdude
unfolding number_of row_of
returns-in-Altdude c = rw c.in-Altdude.is

pub returns-in-Lace : goal.returns-in-Lace
unfolding number_of row_of
returns-in-Lace c = rw c.in-Lace.is

pub returns-in-Brace : goal.returns-in-Brace
unfolding number_of row_of
returns-in-Brace c = rw c.in-Brace.is
