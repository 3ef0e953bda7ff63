-- `forms::is_short` meets its contract: an empty table has no first byte.
use Rattle.std.proofs.Common.{◌≡◌, arith, rules, get_or}
use Rattle.basis.proofs.Lists.{at-past}
use Rattle.nametable_differences.specs.Differences.{is_short}
use Rattle.nametable_differences.proofs.forms.is_short.Goals as goal

pub returns-then-table-eq0 : goal.returns-then-table-eq0
unfolding is_short
returns-then-table-eq0 c =
    let t = c.args.table.now in
    let none : get_or t 0 0 ≡ 0 = at-past t 0 (omega arith) in
    rw none

pub returns : goal.returns
unfolding is_short
returns c = search rules
