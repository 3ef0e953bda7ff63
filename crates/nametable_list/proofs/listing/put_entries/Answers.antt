-- `listing::put_entries` meets its contract: the lines of the first `i` entries are at the front of
-- the output.
use native.Mathlib.Omega.{arith}
use Rattle.nametable_facts.proofs.Whole.{judged-entry-found}
use Rattle.report.proofs.Filling.{at-fits, room-left}
use Rattle.nametable_list.proofs.AllLines.{listed_start, listed-end, listed_more}
use Rattle.basis.proofs.Clauses.{two_clauses}
use Rattle.nametable_list.proofs.listing.put_entries.Goals as goal

pub loop-i-init : goal.loop-i-init
loop-i-init c = listed_start _ _ _

pub slice_bounds-put_entry-count : goal.slice_bounds-put_entry-count
slice_bounds-put_entry-count c = at-fits c.loop-i.invariant c.requires.total_in_bounds

pub slice_bounds-put_entry-start : goal.slice_bounds-put_entry-start
slice_bounds-put_entry-start c = at-fits c.loop-i.invariant c.requires.total_in_bounds

pub put_entry-at-requires : goal.put_entry-at-requires
put_entry-at-requires c =
    let pre = c.requires in
    record {
      found = judged-entry-found _ _ _ pre.table_value (omega arith);
      line_room_in_bounds = room-left c.loop-i.invariant pre.total_in_bounds (omega arith);
    }

pub overflow_add-at : goal.overflow_add-at
overflow_add-at c =
    let l = listed_more _ c.loop-i.invariant c.requires.table_value (omega arith) _ c.put_entry-at.ensures.out_after _ c.put_entry-at.ensures.value in record { fits = omega (arith, l.room, l.within, c.requires.total_in_bounds) }

pub loop-i-preserved : goal.loop-i-preserved
loop-i-preserved c =
    listed_more _ c.loop-i.invariant c.requires.table_value (omega arith) _ c.put_entry-at.ensures.out_after _ c.put_entry-at.ensures.value

pub returns : goal.returns
returns c =
    two_clauses (λ a b. record { value = a; out_after = b }) (listed-end _ c.loop-i.invariant (omega arith))
