-- `entry` meets its contract: the capacity, the table's own verdict, then the entry of a table that
-- was judged.
use mathlib.Core.Path.{refl, sym, ap, ◌∙◌}
use Rattle.std.proofs.Common.{Err}
use Rattle.basis.proofs.Outcome.{handed_on}
use Rattle.basis.specs.Outcome.{outcome_by}
use Rattle.nametable.specs.Answer.{table_outcome, find_outcome}
use Rattle.nametable.proofs.EntryLaws.{refusal-answers}
use Rattle.nametable.proofs.TableLaws.{found-no-room, find-refused, judged-as-found}
use Rattle.basis.proofs.Clauses.{two_clauses}
use Rattle.nametable.proofs.entry.Goals as goal

pub returns-then-text-lt-TEXT_CAPACITY : goal.returns-then-text-lt-TEXT_CAPACITY
unfolding outcome_by find_outcome
returns-then-text-lt-TEXT_CAPACITY c =
    two_clauses (λ a b. record { result_value = a; text_after = b }) (refusal-answers _ _ _ _ _ refl (ap Err c.at.ensures) (found-no-room _ _ _ _ _ c.if-text-lt-TEXT_CAPACITY.true))

pub returns-in_err-read : goal.returns-in_err-read
unfolding outcome_by find_outcome
returns-in_err-read c =
    two_clauses (λ a b. record { result_value = a; text_after = b }) (refusal-answers _ _ _ _ _ refl (handed_on c.from_residual.ensures) (find-refused _ _ _ c.if-text-lt-TEXT_CAPACITY.false (sym c.read.ensures ∙ ap table_outcome c.in_err-read.was)))

pub returns : goal.returns
unfolding outcome_by find_outcome
returns c =
    let as_found = judged-as-found c.args.table.now _ (sym c.read.ensures ∙ ap table_outcome c.in_ok-read.was) in
    record {
      result_value = rw (as_found _ _) at c.judged_entry.ensures.result_value;
      text_after = rw (as_found _ _) at c.judged_entry.ensures.text_after;
    }
