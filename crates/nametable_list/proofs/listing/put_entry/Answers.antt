-- `listing::put_entry` meets its contract: the entry is found, and its line is written whole.
use native.Mathlib.Omega.{arith}
use Rattle.nametable_facts.proofs.JudgedEntry.{never-error}
use Rattle.report.proofs.LineLaws.{line-written}
use Rattle.nametable_list.specs.Listing.{entry_line}
use Rattle.nametable_list.proofs.EntryLines.{line-fits, points-fit, points-long, line-is}
use Rattle.basis.proofs.Clauses.{two_clauses}
use Rattle.nametable_list.proofs.listing.put_entry.Goals as goal

pub slice_bounds-points-end : goal.slice_bounds-points-end
slice_bounds-points-end c =
    points-fit _ _ c.requires.found _ (omega arith) _ c.judged_entry.ensures.result_value _ c.in-Ok.is _ _ c.judged_entry.ensures.text_after

pub slice_bounds-list_line-end : goal.slice_bounds-list_line-end
slice_bounds-list_line-end c =
    points-long _ _ c.requires.found _ (omega arith) _ c.judged_entry.ensures.result_value _ c.in-Ok.is _ _ c.judged_entry.ensures.text_after

pub returns-in-Err : goal.returns-in-Err
returns-in-Err c =
    two_clauses (λ a b. record { value = a; out_after = b }) (absurd (never-error _ _ _ (c.requires.found _ (omega arith)) _ c.judged_entry.ensures.result_value _ c.in-Err.is))

pub returns-in-Ok : goal.returns-in-Ok
returns-in-Ok c =
    let a = c.args in
    two_clauses (λ a b. record { value = a; out_after = b }) (line-written _ a.out.now (entry_line a.table.now a.index)
    (line-is _ _ c.requires.found _ (omega arith) _ c.judged_entry.ensures.result_value _ c.in-Ok.is _ _ c.judged_entry.ensures.text_after _ c.letter-letter.ensures)
    (omega (arith, line-fits a.table.now a.index c.requires.found)) _ _ (c.list_line.ensures.result_value, c.list_line.ensures.out_after) _ c.bytes_written.ensures)
