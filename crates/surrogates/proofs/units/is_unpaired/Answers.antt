-- `units::is_unpaired` meets its contract.
use mathlib.Core.Path.{sym, ap, ◌∙◌}
use mathlib.Core.Bool.{not}
use Rattle.surrogates.proofs.Surrogates.{unpaired-high, unpaired-low, unpaired-plain}
use Rattle.surrogates.proofs.units.is_unpaired.Goals as goal

pub returns-then-is_high : goal.returns-then-is_high
returns-then-is_high c = ap not c.is_low.ensures ∙ sym (unpaired-high _ _ _ (sym c.is_high.ensures ∙ c.if-is_high.true))

pub returns-then-is_low : goal.returns-then-is_low
returns-then-is_low c =
    ap not c.is_high-then-is_low.ensures ∙ sym (unpaired-low _ _ _ (sym c.is_low-2.ensures ∙ c.if-is_low.true))

pub returns : goal.returns
returns c =
    sym (unpaired-plain _ _ _ (sym c.is_high.ensures ∙ c.if-is_high.false) (sym c.is_low-2.ensures ∙ c.if-is_low.false))
