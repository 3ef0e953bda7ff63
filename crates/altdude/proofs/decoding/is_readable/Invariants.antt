-- `decoding::is_readable` meets its contract. What is left of the label can be read from the state exactly when the label can.
use mathlib.Core.List.{map}
use Rattle.altdude.specs.Symbols.{symbol_of}
use Rattle.altdude.specs.Decoding.{is_readable}
use Rattle.altdude.proofs.DecodeLaws.{Reading}
use Rattle.altdude.proofs.decoding.is_readable.Given as goal

abbrev pub invariant-loop-byte : goal.invariant-loop-byte
invariant-loop-byte l = Reading l.label (is_readable 96 0 (map symbol_of l.label)) l.state l.byte-index
