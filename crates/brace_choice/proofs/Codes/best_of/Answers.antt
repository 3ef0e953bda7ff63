-- `best_of` meets its contract: the chain keeps the better of the best so far and the next code's half-row.
use Prim.Native.Nat.{◌/◌}
use mathlib.Core.Path.{◌≡◌, ◌∙◌}
use Rattle.std.proofs.Common.{rules}
use Rattle.std.specs.List.{fold}
use Rattle.basis.specs.Tests.{pick}
use Rattle.brace_choice.specs.Choice.{is_better}
use Rattle.brace_choice.proofs.HalfRows.{chosen}
use Rattle.brace_choice.proofs.Codes.best_of.Goals as goal

pub returns : goal.returns
returns c =
    let codes = c.args.self.now.units.now in
    let best : c.fold.result ≡ fold (λ best x. pick (is_better codes (x / 128) best) (x / 128) best) c.args.first codes = search rules in
    best ∙ chosen codes c.args.first codes
