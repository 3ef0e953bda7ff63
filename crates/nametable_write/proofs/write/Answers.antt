-- `write` meets its contract: the room, the rows and the entries in turn, then the table.
use Prim.Native.Nat.{◌≤◌}
use mathlib.Core.Path.{sym, ap, ◌∙◌}
use native.Mathlib.Omega.{arith}
use lib.ListN.{length}
use Rattle.basis.specs.Outcome.{outcome_by, bytes_outcome}
use Rattle.basis.proofs.Outcome.{refusal-leaves, refusal_is, handed_on}
use Rattle.nametable_format.specs.Format.{table_length}
use Rattle.nametable_write.proofs.WriteLaws.{no_room, has_room, list-passed, no-list, entries-decide, judged-spelled, table-left}
use Rattle.basis.proofs.Clauses.{two_clauses}
use Rattle.nametable_write.proofs.write.Goals as goal

pub returns-then-lacks_room : goal.returns-then-lacks_room
unfolding outcome_by
returns-then-lacks_room c =
    let a = c.args in
    two_clauses (λ a b. record { result_value = a; table_after = b }) (refusal-leaves _ _ _ _ 1 0 (refusal_is c.at.ensures)
    (no_room a.readers.now a.schemes.now a.lengths.now a.points.now (length a.table.now) c.lacks_room.ensures c.if-lacks_room.true))

pub returns-in_default : goal.returns-in_default
unfolding outcome_by
returns-in_default c =
    let a = c.args in
    two_clauses (λ a b. record { result_value = a; table_after = b }) (refusal-leaves _ _ _ _ 14 0 (refusal_is c.at-in_default.ensures)
    (no-list a.readers.now a.schemes.now a.lengths.now a.points.now (length a.table.now) c.lacks_room.ensures c.if-lacks_room.false c.of.ensures c.in_default.is))

pub returns-in_err-count : goal.returns-in_err-count
unfolding outcome_by
returns-in_err-count c =
    let a = c.args in
    two_clauses (λ a b. record { result_value = a; table_after = b }) (refusal-leaves _ _ _ _ _ _ (ap bytes_outcome (handed_on c.from_residual.ensures))
    (entries-decide a.readers.now a.schemes.now a.lengths.now a.points.now (length a.table.now) c.lacks_room.ensures c.if-lacks_room.false c.of.ensures c.in-Some.is
    ∙ sym c.judge.ensures ∙ ap bytes_outcome c.in_err-count.was))

pub put_header-requires : goal.put_header-requires
put_header-requires c =
    let a = c.args in
    record {
      count_le_most_entries = rw (list-passed _ _ _ _ c.of.ensures c.in-Some.is).1 at c.in-Some.list.rows.few;
      header_length_in_bounds = omega (arith, has_room a.readers.now a.schemes.now a.lengths.now a.points.now (length a.table.now) c.lacks_room.ensures c.if-lacks_room.false);
    }

pub put_entries-requires : goal.put_entries-requires
put_entries-requires c =
    let a = c.args in
    let room = has_room a.readers.now a.schemes.now a.lengths.now a.points.now (length a.table.now) c.lacks_room.ensures c.if-lacks_room.false in
    let fits : table_length (length c.in-Some.list.readers.now) ≤ length a.table.now = rw (list-passed _ _ _ _ c.of.ensures c.in-Some.is).1 room in
    record {
      all_spelled = judged-spelled c.in-Some.list a.table.now fits c.judge.result c.judge.ensures c.in_ok-count.was;
      readers_in_bounds = omega (arith, fits, c.put_header.auto.table);
    }

pub shape_of-table : goal.shape_of-table
shape_of-table c = c.put_entries.ensures.long ∙ c.put_header.auto.table

pub returns : goal.returns
returns c =
    let a = c.args in
    let list = list-passed _ _ _ _ c.of.ensures c.in-Some.is in
    let room = has_room a.readers.now a.schemes.now a.lengths.now a.points.now (length a.table.now) c.lacks_room.ensures c.if-lacks_room.false in
    two_clauses (λ a b. record { result_value = a; table_after = b }) (rw (← list.2) (table-left c.in-Some.list a.table.now (rw list.1 room) c.judge.result c.judge.ensures c.in_ok-count.was
    (entries-decide a.readers.now a.schemes.now a.lengths.now a.points.now (length a.table.now) c.lacks_room.ensures c.if-lacks_room.false c.of.ensures c.in-Some.is)
    (rw list.1 c.put_header.ensures) c.put_entries.ensures))
