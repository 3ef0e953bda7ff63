-- `listing::put_listing` meets its contract: by the table's verdict, the refusal's line or the
-- lines of the entries.
use mathlib.Core.Path.{sym, ap, ◌∙◌}
use Rattle.basis.specs.Outcome.{outcome_by}
use Rattle.nametable.specs.Answer.{table_outcome}
use Rattle.nametable_list.proofs.AllLines.{entries_fit, listing-whole, listing-refused}
use Rattle.basis.proofs.Clauses.{two_clauses}
use Rattle.nametable_list.proofs.listing.put_listing.Goals as goal

pub put_entries-requires : goal.put_entries-requires
unfolding outcome_by
put_entries-requires c =
    let v = c.read.ensures in let whole = sym v ∙ ap table_outcome c.in-Ok.is in
    record {
      table_value = whole;
      total_in_bounds = entries_fit _ _ _ whole c.requires;
    }

pub returns-in-Err : goal.returns-in-Err
unfolding outcome_by
returns-in-Err c =
    let v = c.read.ensures in
    two_clauses (λ a b. record { value = a; out_after = b }) (listing-refused _ _ v _ _ _ _ c.in-Err.is (c.put_refusal.ensures.value, c.put_refusal.ensures.out_after))

pub returns-in-Ok : goal.returns-in-Ok
unfolding outcome_by
returns-in-Ok c =
    let v = c.read.ensures in
    two_clauses (λ a b. record { value = a; out_after = b }) (listing-whole _ _ v _ _ _ _ c.in-Ok.is (c.put_entries.ensures.value, c.put_entries.ensures.out_after))
