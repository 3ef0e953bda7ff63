-- `to_short` meets its contract: the table's own refusal, or what moving a whole table answers.
use mathlib.Core.Path.{sym, ap, ◌∙◌}
use Rattle.basis.specs.Outcome.{outcome_by, bytes_outcome}
use Rattle.basis.proofs.Outcome.{refusal-leaves, handed_on}
use Rattle.nametable.specs.Answer.{table_outcome}
use Rattle.nametable_short.specs.Answer.{to_short_outcome}
use Rattle.nametable_short.proofs.MoveLaws.{move-refused}
use Rattle.basis.proofs.Clauses.{two_clauses}
use Rattle.nametable_short.proofs.to_short.Goals as goal

pub put_short_table-requires : goal.put_short_table-requires
unfolding outcome_by to_short_outcome
put_short_table-requires c = sym c.read.ensures ∙ ap table_outcome c.in_ok-count.was

pub returns-in_err-count : goal.returns-in_err-count
unfolding outcome_by to_short_outcome
returns-in_err-count c =
    two_clauses (λ a b. record { result_value = a; short_after = b }) (refusal-leaves _ _ _ _ _ _ (ap bytes_outcome (handed_on c.from_residual.ensures)) (move-refused _ _ _ (sym c.read.ensures ∙ ap table_outcome c.in_err-count.was)))

pub returns : goal.returns
unfolding outcome_by to_short_outcome
returns c =
    record {
      result_value = c.put_short_table.ensures.result_value;
      short_after = c.put_short_table.ensures.short_after;
    }
