-- The value of the character there, or 0 past the end.
use mathlib.Core.Path.{sym, ◌∙◌}
use native.Mathlib.Omega.{arith}
use borrow.Author.Rules.{rules}
use Rattle.basis.specs.Rows.{at}
use Rattle.basis.proofs.Lists.{at-past}
use Rattle.alphabet.specs.Alphabet.{lace, values_of}
use Rattle.alphabet.proofs.Inverse.{value-le, lace-alphabet}
use Rattle.alphabet.proofs.LookUp.{value_found}
use Rattle.base32.proofs.Values.{length-values, at-values}
use Rattle.base32.proofs.octets.value_at.Goals as goal

pub returns-then-i-characters : goal.returns-then-i-characters
returns-then-i-characters c =
    let a = c.args in
    let value = value_found lace _ c.lace_look_up.ensures in
    record {
      value = value ∙ sym (at-values lace a.characters.now a.i (omega arith));
      upper_bound = omega (arith, value, value-le lace lace-alphabet (at a.characters.now a.i));
    }

pub returns-else-i-characters : goal.returns-else-i-characters
returns-else-i-characters c =
    let a = c.args in
    record {
      value = sym (at-past (values_of lace a.characters.now) a.i (omega (arith, length-values lace a.characters.now)));
      upper_bound = search rules;
    }
