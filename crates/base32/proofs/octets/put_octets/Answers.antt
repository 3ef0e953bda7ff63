-- The loop's invariant: the first i octets are before what the buffer held. Each turn stores one more.
use Prim.Native.Nat.{ℕ}
use mathlib.Core.Path.{refl, ap}
use mathlib.Core.List.{List, ◌++◌}
use native.Mathlib.Omega.{arith}
use lib.ListN.{drop, length-set}
use lib.Seq.{length-take-le}
use Rattle.basis.specs.Rows.{tabulate}
use Rattle.basis.proofs.Lists.{fill_more}
use Rattle.alphabet.specs.Alphabet.{lace}
use Rattle.base32.proofs.Values.{fill-part, octets-tabulate}
use Rattle.base32.proofs.octets.put_octets.Goals as goal

pub loop-i-init : goal.loop-i-init
unfolding tabulate
loop-i-init c = (refl, refl)

pub octet-requires : goal.octet-requires
octet-requires c =
    record {
      i_bound = omega (arith, length-take-le c.args.n c.args.octets.now c.requires.n_in_bounds);
      characters_value = c.requires.characters_value;
    }

pub loop-i-preserved : goal.loop-i-preserved
loop-i-preserved c =
    let l = c.loop-i in
    (simp length-set l.invariant.0, fill_more _ _ _ l.i _ (omega arith) c.octet.ensures l.invariant.1)

pub returns : goal.returns
returns c =
    let a = c.args in
    let long = length-take-le a.n a.octets.now c.requires.n_in_bounds in
    ap (λ (l : List ℕ). l ++ drop a.n a.octets.now)
    (fill-part _ _ _ _ c.loop-i.i a.n long (omega (arith, long)) (octets-tabulate lace a.characters.now a.n c.requires.n_value) c.loop-i.invariant.1)
