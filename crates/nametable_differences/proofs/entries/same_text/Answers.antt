-- `entries::same_text` meets its contract: as many points, and the same one at each index.
use mathlib.Core.Path.{◌∙◌}
use Rattle.nametable_differences.proofs.EntryLaws.{same_points}
use Rattle.nametable_differences.proofs.entries.same_text.Goals as goal

pub returns : goal.returns
returns c = c.eq.ensures ∙ same_points _ _
