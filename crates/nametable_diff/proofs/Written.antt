-- What is written where there is room for a report.
use Prim.Native.Nat.{ℕ, ◌≤◌}
use mathlib.Core.Path.{◌≡◌, ap, ◌∙◌}
use mathlib.Core.List.{List, ◌++◌}
use lib.ListN.{length, drop}
use Rattle.basis.specs.Outcome.{Outcome, done, count_of, buffer_after}
use Rattle.basis.proofs.Outcome.{pass_below}
use Rattle.nametable_differences.specs.Report.{report_of, report_capacity, report_outcome}

-- the report on two tables is written whole, by the count of the answer
pub report-written : (left right old now : List ℕ) → report_capacity ≤ length old → (answer : Outcome) → answer ≡ report_outcome left right (length old)
    → now ≡ buffer_after (report_outcome left right (length old)) (report_of left right) old → (n : ℕ) → n ≡ count_of answer
    → (n ≡ length (report_of left right)) × (now ≡ report_of left right ++ drop (length (report_of left right)) old)
unfolding report_outcome buffer_after count_of
report-written left right old now room answer a b n c =
    let o : report_outcome left right (length old) ≡ done (length (report_of left right)) = pass_below _ _ _ _ _ room in
    (c ∙ ap count_of (a ∙ o), b ∙ rw o)
