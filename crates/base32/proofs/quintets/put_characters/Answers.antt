-- The loop's invariant: the first i characters are before what the buffer held. Each turn stores one more.
use Prim.Native.Nat.{ℕ}
use mathlib.Core.Path.{refl, ap, ◌∙◌}
use mathlib.Core.List.{List, ◌++◌}
use native.Mathlib.Omega.{arith}
use lib.ListN.{drop, length-set}
use lib.Seq.{length-take-le}
use Rattle.basis.specs.Rows.{tabulate}
use Rattle.basis.proofs.Lists.{fill_more}
use Rattle.alphabet.specs.Alphabet.{lace, character_of}
use Rattle.base32.proofs.Values.{fill-part, characters-tabulate}
use Rattle.base32.proofs.quintets.put_characters.Goals as goal

pub loop-i-init : goal.loop-i-init
unfolding tabulate
loop-i-init c = (refl, refl)

pub loop-i-preserved : goal.loop-i-preserved
loop-i-preserved c =
    let l = c.loop-i in
    (simp length-set l.invariant.0, fill_more _ _ _ l.i _ (omega arith) (c.lace_character.ensures ∙ ap (character_of lace) c.quintet.ensures) l.invariant.1)

pub returns : goal.returns
returns c =
    let a = c.args in
    let long = length-take-le a.n a.characters.now c.requires.n_in_bounds in
    ap (λ (l : List ℕ). l ++ drop a.n a.characters.now)
    (fill-part _ _ _ _ c.loop-i.i a.n long (omega (arith, long)) (characters-tabulate lace a.octets.now a.n c.requires.n_value) c.loop-i.invariant.1)
