-- `bytes::put_bytes` meets its contract: i bytes are stored, the others are left.
use lib.ListN.{drop}
use Rattle.basis.proofs.Stores.{Storing}
use Rattle.alphabet.specs.Alphabet.{brace}
use Rattle.copying.specs.Symbols.{capital, bytes_of}
use Rattle.brace.proofs.bytes.put_bytes.Given as goal

abbrev pub invariant-loop-i : goal.invariant-loop-i
invariant-loop-i l = Storing l.initial.label (bytes_of brace capital l.symbols) l.label l.i (drop l.i (bytes_of brace capital l.symbols))
