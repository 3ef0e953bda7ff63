-- `decoding::put_text` meets its contract. What is left of the label can be read, and what is left of the text is still to be stored.
use mathlib.Core.Bool.{true}
use Rattle.altdude.proofs.DecodeLaws.{Reading, Putting}
use Rattle.altdude.proofs.decoding.put_text.Given as goal

abbrev pub invariant-loop-byte : goal.invariant-loop-byte
invariant-loop-byte l = Reading l.label true l.state l.byte-index × Putting l.label l.initial.text l.text l.state l.at l.byte-index
