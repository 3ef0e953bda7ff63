-- A quintet is compared by the value of the byte, a copied byte by itself.
use Rattle.alphabet.specs.Alphabet.{brace}
use Rattle.alphabet.proofs.LookUp.{value_found}
use Rattle.brace_decoding.proofs.Comparison.{coded-for, copied-for}
use Rattle.brace_decoding.proofs.decoding.is_for.Goals as goal

pub returns-then-symbol-lt32 : goal.returns-then-symbol-lt32
returns-then-symbol-lt32 c = coded-for _ _ c.if-symbol-lt32.true _ (value_found brace _ c.brace_look_up.ensures)

pub returns : goal.returns
returns c = copied-for _ _ c.if-symbol-lt32.false
