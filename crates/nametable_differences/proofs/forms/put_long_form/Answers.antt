-- `forms::put_long_form` meets its contract, by the form that the table is of.
use mathlib.Core.Path.{sym, ◌∙◌}
use Rattle.basis.proofs.Outcome.{handed-leaves}
use Rattle.nametable_differences.proofs.FormLaws.{moved-form, moved-outcome}
use Rattle.basis.proofs.Clauses.{two_clauses}
use Rattle.nametable_differences.proofs.forms.put_long_form.Goals as goal

pub returns-then-is_short : goal.returns-then-is_short
returns-then-is_short c =
    let short = sym c.is_short.ensures ∙ c.if-is_short.true in
    two_clauses (λ a b. record { result_value = a; long_after = b }) (handed-leaves _ _ _ _ _ _ _ (moved-outcome _ short _ c.requires) (moved-form _ short) (c.to_long.ensures.result_value, c.to_long.ensures.table_after))

pub put_long-requires : goal.put_long-requires
put_long-requires c =
    record {
      table_value = sym c.is_short.ensures ∙ c.if-is_short.false;
      most_entries_in_bounds = c.requires;
    }
