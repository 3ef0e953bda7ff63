-- The loop's invariant: the first i characters are before what the buffer held. Each turn stores one more.
use mathlib.Core.Path.{◌≡◌}
use mathlib.Core.List.{◌++◌}
use lib.ListN.{length, drop}
use Rattle.basis.specs.Rows.{at, tabulate}
use Rattle.alphabet.specs.Alphabet.{lace, character_of}
use Rattle.base32.specs.Bits.{regroup}
use Rattle.base32.proofs.quintets.put_characters.Given as goal

abbrev pub invariant-loop-i : goal.invariant-loop-i
invariant-loop-i l =
    (length l.slot-items ≡ length l.initial.slot-items)
    × (l.slot-items ≡ tabulate l.i (λ k. character_of lace (regroup 8 5 (at l.octets) k)) ++ drop l.i l.initial.slot-items)
