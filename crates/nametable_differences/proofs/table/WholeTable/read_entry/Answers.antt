-- `WholeTable::read_entry` meets its contract: each entry of a whole table is found.
use Rattle.nametable_facts.proofs.Whole.{judged-entry-found}
use Rattle.nametable_facts.proofs.JudgedEntry.{answered-parts, answered-count, answered-points}
use Rattle.nametable_differences.proofs.EntryLaws.{answered-ok}
use Rattle.nametable_differences.proofs.table.WholeTable.read_entry.Goals as goal

pub unwrap-requires : goal.unwrap-requires
unwrap-requires c =
    answered-ok _ _ _ (judged-entry-found _ _ _ c.args.self.now.whole c.requires.index_in_bounds _ c.requires.text_capacity_in_bounds) _ c.judged_entry.ensures.result_value

pub returns : goal.returns
returns c =
    let found = judged-entry-found _ _ _ c.args.self.now.whole c.requires.index_in_bounds _ c.requires.text_capacity_in_bounds in
    let a = c.judged_entry.ensures in
    let g = c.unwrap.ensures in
    record {
      scheme_value = (answered-parts _ _ _ found _ a.result_value _ g).2;
      count_value = answered-count _ _ _ found _ a.result_value _ g;
      text_after = answered-points _ _ _ found _ a.result_value _ _ a.text_after;
    }
