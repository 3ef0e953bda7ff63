-- The refusal of a byte outside the alphabet, and every other.
use Rattle.lace_decoding.specs.Internal.{error_after_prefix}
use Rattle.lace_decoding.proofs.DecodeLaws.{other-error}
use Rattle.lace_decoding.proofs.decoding.after_prefix.Goals as goal

pub returns-in-OutsideAlphabet : goal.returns-in-OutsideAlphabet
unfolding error_after_prefix
returns-in-OutsideAlphabet c = rw (c.at.ensures, c.in-OutsideAlphabet.is)

pub returns-in_default : goal.returns-in_default
returns-in_default c =
    let refusal = c.args.refusal in
    rw c.at-in_default.ensures (other-error refusal.code refusal.position c.in_default.not-OutsideAlphabet)
