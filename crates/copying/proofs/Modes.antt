-- Laws on the modes, as encoding speaks of them: letters are copied, or not.
use mathlib.Core.Path.{◌≡◌, refl}
use mathlib.Core.Bool.{Bool, true, false}
use Rattle.basis.proofs.Tests.{true-not-false}
use Rattle.copying.specs.Modes.{after_other, is_copied}
use Rattle.copying.specs.declared.Mode.{Mode}
use Rattle.copying.specs.declared.Mode.TheVariants.{Coded, CodedHyphen, Copied, CopiedHyphen}

-- the mode in which letters are copied, or not
unfoldable pub mode_of : Bool → Mode
mode_of true = Copied
mode_of false = Coded

-- after a coded byte bytes are coded
pub after-coded : (m : Mode) → is_copied m ≡ false → after_other m ≡ Coded
unfolding is_copied after_other
after-coded Coded e = refl
after-coded CodedHyphen e = absurd (true-not-false refl e)
after-coded Copied e = absurd (true-not-false refl e)
after-coded CopiedHyphen e = refl
