-- `write_report` meets its contract: the room is tested before all else.
use mathlib.Core.Path.{ap, sym, ◌∙◌}
use mathlib.Core.List.{◌++◌}
use lib.ListN.{drop}
use Prim.Native.Nat.{ℕ}
use Rattle.basis.specs.Outcome.{done, outcome_by}
use Rattle.basis.proofs.Outcome.{stop-below, pass_below, refusal-leaves, refusal_is, done-leaves}
use Rattle.nametable_differences.specs.Report.{report_of, report_capacity, report_outcome}
use Rattle.basis.proofs.Clauses.{two_clauses}
use Rattle.nametable_differences.proofs.write_report.Goals as goal

pub returns-then-has_no_room : goal.returns-then-has_no_room
unfolding outcome_by report_outcome
returns-then-has_no_room c =
    two_clauses (λ a b. record { result_value = a; report_after = b }) (refusal-leaves _ _ _ _ _ _ (refusal_is c.at.ensures) (stop-below 1 0 _ _ report_capacity c.if-has_no_room.true))

pub returns : goal.returns
unfolding outcome_by report_outcome
returns c =
    let a = c.args in
    two_clauses (λ a b. record { result_value = a; report_after = b }) (done-leaves _ (report_of a.left.now a.right.now) a.report.now _ _ (pass_below _ _ _ _ _ c.if-has_no_room.false ∙ ap done (sym c.put_report.ensures.value))
    (c.put_report.ensures.out_after ∙ ap (λ (k : ℕ). report_of a.left.now a.right.now ++ drop k a.report.now) (sym c.put_report.ensures.value)))
