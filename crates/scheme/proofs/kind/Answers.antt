-- `kind` meets its contract, scheme by scheme.
use Rattle.scheme.specs.Naming.{row_of, kind_of}
use Rattle.scheme.proofs.kind.Goals as goal

pub returns-in-Altdude : goal.returns-in-Altdude
unfolding kind_of row_of
returns-in-Altdude c = rw c.in-Altdude.is

pub returns-in-Lace : goal.returns-in-Lace
unfolding kind_of row_of
returns-in-Lace c = rw c.in-Lace.is

pub returns-in-Brace : goal.returns-in-Brace
unfolding kind_of row_of
returns-in-Brace c = rw c.in-Brace.is
