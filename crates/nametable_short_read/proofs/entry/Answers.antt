-- `entry` meets its contract: the capacity, the table's own verdict, then the entry of a table that
-- was judged.
use mathlib.Core.Path.{refl, sym, ap, ◌∙◌}
use native.Mathlib.Omega.{arith}
use Rattle.basis.specs.Outcome.{outcome_by}
use Rattle.basis.proofs.Outcome.{handed_on}
use Rattle.nametable.specs.Answer.{table_outcome}
use Rattle.nametable.proofs.EntryLaws.{refusal-answers}
use Rattle.nametable.proofs.TableLaws.{found-refused}
use Rattle.nametable_short_read.specs.Answer.{short_find_outcome}
use Rattle.basis.proofs.Clauses.{two_clauses}
use Rattle.nametable_short_read.proofs.entry.Goals as goal

pub read_at-requires : goal.read_at-requires
unfolding outcome_by short_find_outcome
read_at-requires c =
    record {
      table_value = sym c.read.ensures ∙ ap table_outcome c.in_ok-count.was;
      text_capacity_in_bounds = omega arith;
    }

pub returns-in_err-count : goal.returns-in_err-count
unfolding outcome_by short_find_outcome
returns-in_err-count c =
    two_clauses (λ a b. record { result_value = a; text_after = b }) (refusal-answers _ _ _ _ _ refl (handed_on c.from_residual.ensures) (found-refused _ _ _ _ _ (omega arith) (sym c.read.ensures ∙ ap table_outcome c.in_err-count.was)))

pub returns : goal.returns
unfolding outcome_by short_find_outcome
returns c =
    record {
      result_value = c.read_at.ensures.result_value;
      text_after = c.read_at.ensures.text_after;
    }
