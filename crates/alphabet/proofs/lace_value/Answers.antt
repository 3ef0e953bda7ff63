-- `lace_value` meets its contract: the table has the values of the 256 bytes, which is computed.
use mathlib.Core.Path.{refl, ◌∙◌}
use native.Mathlib.Omega.{arith}
use Rattle.basis.specs.Tests.{both, within, first_below}
use Rattle.basis.specs.Rows.{tabulate}
use Rattle.ascii.specs.Case.{is_capital, small}
use Rattle.alphabet.specs.Alphabet.{lace, value_of}
use Rattle.alphabet.proofs.Tables.{table-value}
use Rattle.alphabet.proofs.lace_value.Goals as goal

pub returns : goal.returns
unfolding tabulate value_of lace small is_capital within both first_below
returns c = c.value_in.ensures ∙ table-value _ lace refl c.args.byte (omega arith)
