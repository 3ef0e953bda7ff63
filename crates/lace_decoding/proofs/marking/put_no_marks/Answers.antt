-- `marking::put_no_marks` meets its contract: the first marks are filled with 0.
use Prim.Native.Nat.{ℕ, zero, suc}
use mathlib.Core.Path.{◌≡◌, refl, ap, ◌∙◌}
use mathlib.Core.List.{List, ◌∷◌, ◌++◌}
use lib.ListN.{drop, replicate}
use lib.Seq.{length-take-le}
use borrow.Author.Rules.{rules}
use Rattle.basis.specs.Rows.{tabulate}
use Rattle.labels.specs.Marks.{no_marks}
use Rattle.lace_decoding.proofs.marking.put_no_marks.Goals as goal

zeros-are : (count : ℕ) → replicate count 0 ≡ no_marks count
unfolding no_marks tabulate
zeros-are zero = refl
zeros-are (suc count) = ap (λ (l : List ℕ). 0 ∷ l) (zeros-are count)

pub returns : goal.returns
returns c =
    let count = c.args.count in
    let marks = c.args.marks.now in
    ap (λ (l : List ℕ). l ++ drop count marks) (c.fill.ensures.after (λ y e. search rules) ∙ ap (λ (n : ℕ). replicate n 0) (length-take-le count marks c.requires) ∙ zeros-are count)
