-- `signature::is_signed` meets its contract: the numbers of the last four elements decide.
use Rattle.brace_format.proofs.Signed.{signed-few, signed-last}
use Rattle.brace_format.proofs.signature.is_signed.Goals as goal

pub returns-then-n-lt4 : goal.returns-then-n-lt4
returns-then-n-lt4 g c = signed-few _ _ c.if-n-lt4.true

pub returns : goal.returns
returns g c =
    signed-last _ _ c.if-n-lt4.false _ _ _ _ _ _ _ _ _ c.index-row-n.is c.number.ensures c.index-row-n-2.is c.number-2.ensures c.index-row-n-3.is c.number-3.ensures
    c.index-row-n-4.is c.number-4.ensures c.is_signature.ensures
