-- A hyphen is stored if it is the second of a pair.
use Rattle.brace_text.proofs.Reading.{hyphen-some, hyphen-none}
use Rattle.basis.proofs.Stores.{stored-none, stored_one}
use Rattle.brace_text.proofs.put_hyphen.Goals as goal

pub returns-then-is_second : goal.returns-then-is_second
returns-then-is_second c =
    rw (hyphen-some _ _ c.is_second.ensures c.if-is_second.true) (stored_one _ _ _)

pub returns : goal.returns
returns c =
    rw (hyphen-none _ _ c.is_second.ensures c.if-is_second.false) (stored-none _ _)
