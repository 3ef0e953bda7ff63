-- `units::first_unpaired_of` meets its contract: no unit before `i` is an unpaired surrogate.
use mathlib.Core.Path.{◌≡◌, ◌∙◌}
use native.Mathlib.Omega.{arith}
use Rattle.surrogates.proofs.Surrogates.{searching-none, searching-found, searching-more, searching-all}
use Rattle.surrogates.proofs.units.first_unpaired_of.Goals as goal

pub loop-i-init : goal.loop-i-init
loop-i-init g c = searching-none _

pub returns-then-is_unpaired : goal.returns-then-is_unpaired
returns-then-is_unpaired g c =
    searching-found _ _ _ c.loop-i.invariant (omega arith) _ _ _ c.unit_at-unit.ensures c.unit_at.ensures c.is_unpaired.ensures c.if-is_unpaired.true

pub loop-i-preserved : goal.loop-i-preserved
loop-i-preserved g c =
    searching-more _ _ _ c.loop-i.invariant (omega arith) _ _ _ c.unit_at-unit.ensures c.unit_at.ensures c.is_unpaired.ensures c.if-is_unpaired.false

pub returns : goal.returns
returns g c =
    let end : c.count.result ≡ c.loop-i.i = omega arith in
    end ∙ searching-all _ _ _ c.loop-i.invariant (omega arith)
