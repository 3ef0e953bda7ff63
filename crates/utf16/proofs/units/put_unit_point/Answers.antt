-- `units::put_unit_point` meets its contract.
use mathlib.Core.Path.{sym, ◌∙◌}
use Rattle.utf16.proofs.Stores.{put-none, put-pair, put-plain}
use Rattle.utf16.proofs.units.put_unit_point.Goals as goal

pub returns-then-is_high : goal.returns-then-is_high
returns-then-is_high c =
    put-none _ _ _ _ (sym c.is_high.ensures ∙ c.if-is_high.true)

pub returns-then-is_low : goal.returns-then-is_low
returns-then-is_low c =
    put-pair _ _ _ _ (sym c.is_low.ensures ∙ c.if-is_low.true)

pub returns : goal.returns
returns c =
    put-plain _ _ _ _ (sym c.is_high.ensures ∙ c.if-is_high.false) (sym c.is_low.ensures ∙ c.if-is_low.false)
