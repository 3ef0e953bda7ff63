-- `encoding::put_letter` meets its contract: the letter, after a hyphen if none was being copied.
use mathlib.Core.Path.{ap}
use lib.ListN.{length}
use native.Mathlib.Omega.{arith}
use lib.ListN.{length-set}
use Rattle.brace_symbols.proofs.Units.{letter-copying, letter-first, stored_two}
use Rattle.basis.proofs.Stores.{stored_one}
use Rattle.brace_symbols.proofs.encoding.put_letter.Goals as goal

pub bounds-symbols-at : goal.bounds-symbols-at
bounds-symbols-at c = omega (arith, ap length (letter-copying _ c.args.unit c.if-copying.true))

pub returns-then-copying : goal.returns-then-copying
returns-then-copying c =
    rw (letter-copying _ c.args.unit c.if-copying.true) (stored_one _ _ _)

pub bounds-symbols-at-2 : goal.bounds-symbols-at-2
bounds-symbols-at-2 c = omega (arith, ap length (letter-first _ c.args.unit c.if-copying.false))

pub bounds-symbols-at-3 : goal.bounds-symbols-at-3
bounds-symbols-at-3 c = rw length-set (omega (arith, ap length (letter-first _ c.args.unit c.if-copying.false)))

pub returns : goal.returns
returns c =
    rw (letter-first _ c.args.unit c.if-copying.false) (stored_two _ _ _ _)
