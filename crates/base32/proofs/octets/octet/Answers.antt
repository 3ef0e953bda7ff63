-- The three values are quintets, and the window that holds the octet.
use native.Mathlib.Omega.{arith}
use Rattle.basis.specs.Rows.{at}
use Rattle.basis.proofs.Lists.{row_below}
use Rattle.alphabet.specs.Alphabet.{lace, values_of}
use Rattle.base32.proofs.Values.{values-below}
use Rattle.base32.proofs.Windows.{octet-window}
use Rattle.base32.proofs.octets.octet.Goals as goal

pub returns : goal.returns
returns c =
    let v = values_of lace c.args.characters.now in
    octet-window (at v) c.args.i _ _ _ (row_below 32 v (omega arith) (values-below lace c.args.characters.now c.requires.characters_value)) c.value_at-x.ensures.value c.value_at-y.ensures.value c.value_at-z.ensures.value
