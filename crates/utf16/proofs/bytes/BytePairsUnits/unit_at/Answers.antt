-- `unit_at` of a row of bytes meets its contract.
use mathlib.Core.Path.{sym, ◌∙◌}
use native.Mathlib.Omega.{arith}
use Rattle.basis.proofs.Lists.{at-past}
use Rattle.utf16.specs.Bytes.{units_of_bytes}
use Rattle.utf16.proofs.BytePairs.{length-units_of_bytes, at-units_of_bytes}
use Rattle.utf16.proofs.bytes.BytePairsUnits.unit_at.Goals as goal

pub returns-then-i-self : goal.returns-then-i-self
returns-then-i-self c = c.unit_of.ensures ∙ sym (at-units_of_bytes _ _ c.if-i-self.true)

pub returns-else-i-self : goal.returns-else-i-self
returns-else-i-self c =
    let bytes = c.args.self.now.0.now in
    sym (at-past (units_of_bytes bytes) _ (omega (arith, length-units_of_bytes bytes, c.if-i-self.false)))
