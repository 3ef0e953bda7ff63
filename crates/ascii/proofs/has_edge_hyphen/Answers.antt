-- `has_edge_hyphen` meets its contract: the first number that is a hyphen answers, and else the last decides.
use mathlib.Core.Path.{sym, ap, ◌∙◌}
use lib.Dec.{eqb}
use borrow.Author.Tests.{eq-eqb}
use Prim.Native.Nat.{ℕ}
use Rattle.ascii.proofs.EdgeHyphen.{number_at, number_last, edge-first, edge-last}
use Rattle.ascii.proofs.has_edge_hyphen.Goals as goal

pub returns-then-number_of-eq45 : goal.returns-then-number_of-eq45
returns-then-number_of-eq45 g c =
    eq-eqb _ 45 c.if-number_of-eq45.true
    ∙ edge-first _ (sym (number_at _ c.args.row.now _ _ c.number_of.ensures 0 c.first.ensures.value) ∙ c.if-number_of-eq45.true)

pub returns-else-number_of-eq45 : goal.returns-else-number_of-eq45
returns-else-number_of-eq45 g c =
    ap (λ (n : ℕ). eqb n 45) (number_last _ c.args.row.now _ _ c.number_of-else-number_of-eq45.ensures c.last.ensures.value)
    ∙ edge-last _ (λ e. c.if-number_of-eq45.false (number_at _ c.args.row.now _ _ c.number_of.ensures 0 c.first.ensures.value ∙ e))
