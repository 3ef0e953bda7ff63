-- BRACE's characters, which are written in capitals: 32 letters and digits.
use mathlib.Core.Path.{◌≡◌, refl}
use mathlib.Core.Bool.{true}
use Rattle.basis.specs.Tests.{both, within, every}
use Rattle.ascii.specs.Case.{is_capital, small}
use Rattle.ascii.specs.Ldh.{is_ldh}
use Rattle.alphabet.specs.Alphabet.{brace, character_of}
use Rattle.alphabet.proofs.Inverse.{brace-alphabet}
use Rattle.copying.specs.Symbols.{capital, Written}

pub brace-written : Written brace capital
unfolding every both within brace is_capital small capital character_of
brace-written = record { test = brace-alphabet; folds = refl }

-- all are LDH
pub brace-ldh : every 32 (λ q. is_ldh (character_of brace q)) ≡ true
unfolding every both within is_ldh character_of brace
brace-ldh = refl
