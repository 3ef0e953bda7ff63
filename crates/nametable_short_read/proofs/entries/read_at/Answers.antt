-- `entries::read_at` meets its contract: the index, then the entry that begins and ends there.
use mathlib.Core.Path.{refl, ap}
use Rattle.std.proofs.Common.{Err}
use Rattle.nametable.proofs.EntryLaws.{refusal-answers}
use Rattle.nametable_short_format.proofs.EntryLaws.{ends_at}
use Rattle.nametable_short_read.proofs.TableLaws.{short-read-table, past-last, part-found, part-sized, read_found}
use Rattle.basis.proofs.Clauses.{two_clauses}
use Rattle.nametable_short_read.proofs.entries.read_at.Goals as goal

pub returns-then-count-index : goal.returns-then-count-index
returns-then-count-index c =
    two_clauses (λ a b. record { result_value = a; text_after = b }) (refusal-answers _ _ _ _ _ refl (ap Err c.at.ensures) (past-last c.args.table.now c.args.count c.requires.table_value _ _ c.requires.text_capacity_in_bounds c.if-count-index.true))

pub start_of-start-requires : goal.start_of-start-requires
start_of-start-requires c = (short-read-table c.args.table.now c.args.count c.requires.table_value).header.long

pub slice_bounds-read_short-end : goal.slice_bounds-read_short-end
slice_bounds-read_short-end c = (ends_at c.args.table.now _ _ c.start_of-start.ensures.inside c.end_of-end.ensures).inside

pub read_short-requires : goal.read_short-requires
read_short-requires c =
    record {
      short_len = part-sized c.args.table.now c.args.count c.requires.table_value c.args.index _ _ c.start_of-start.ensures (ends_at c.args.table.now _ _ c.start_of-start.ensures.inside c.end_of-end.ensures) c.if-count-index.false;
      text_capacity_in_bounds = c.requires.text_capacity_in_bounds;
    }

pub returns : goal.returns
returns c =
    record {
      result_value = rw (
        read_found c.args.table.now c.args.count c.requires.table_value c.args.index _ _ c.start_of-start.ensures (ends_at c.args.table.now _ _ c.start_of-start.ensures.inside c.end_of-end.ensures) c.if-count-index.false _ c.requires.text_capacity_in_bounds,
        part-found c.args.table.now c.args.count c.requires.table_value c.args.index _ _ c.start_of-start.ensures (ends_at c.args.table.now _ _ c.start_of-start.ensures.inside c.end_of-end.ensures),
      ) at c.read_short.ensures.result_value;
      text_after = rw (
        read_found c.args.table.now c.args.count c.requires.table_value c.args.index _ _ c.start_of-start.ensures (ends_at c.args.table.now _ _ c.start_of-start.ensures.inside c.end_of-end.ensures) c.if-count-index.false _ c.requires.text_capacity_in_bounds,
        part-found c.args.table.now c.args.count c.requires.table_value c.args.index _ _ c.start_of-start.ensures (ends_at c.args.table.now _ _ c.start_of-start.ensures.inside c.end_of-end.ensures),
      ) at c.read_short.ensures.text_after;
    }
