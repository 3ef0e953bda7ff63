-- `moves::put_long_table` meets its contract: the room, then the header and the entries.
use Prim.Native.Nat.{◌+◌, ◌*◌}
use mathlib.Core.Path.{◌≡◌}
use native.Mathlib.Omega.{arith}
use lib.ListN.{length, drop}
use Rattle.basis.specs.Outcome.{outcome_by}
use Rattle.basis.proofs.Outcome.{refusal-leaves, refusal_is}
use Rattle.nametable_format.specs.Format.{header_kind, header_length}
use Rattle.nametable_short.specs.Answer.{long_entries, to_long_outcome}
use Rattle.nametable_short_read.proofs.TableLaws.{short-read-table}
use Rattle.nametable_short.proofs.MoveLaws.{long-entries-size, long-made, move-no-room, moved-left}
use Rattle.basis.proofs.Clauses.{two_clauses}
use Rattle.nametable_short.proofs.moves.put_long_table.Goals as goal

pub overflow_mul-needed : goal.overflow_mul-needed
overflow_mul-needed c =
    let w = short-read-table c.args.short.now c.args.count c.requires in omega (arith, w.header.few, w.counted)

pub overflow_add-needed : goal.overflow_add-needed
overflow_add-needed c =
    let w = short-read-table c.args.short.now c.args.count c.requires in omega (arith, w.header.few, w.counted)

pub returns-then-table-needed : goal.returns-then-table-needed
unfolding outcome_by to_long_outcome
returns-then-table-needed c =
    let a = c.args in
    let w = short-read-table a.short.now a.count c.requires in
    let size : 3 + 67 * a.count ≡ 3 + length (long_entries a.count (drop header_length a.short.now)) = omega (arith, long-entries-size a.count (drop header_length a.short.now)) in
    two_clauses (λ a b. record { result_value = a; table_after = b }) (refusal-leaves _ _ _ _ 1 0 (refusal_is c.at.ensures)
    (move-no-room _ c.requires header_kind a.short.now _ _ a.table.now (long-made a.short.now w.counted) size c.if-table-needed.true))

pub put_header-requires : goal.put_header-requires
put_header-requires c =
    let w = short-read-table c.args.short.now c.args.count c.requires in (w.header.long, omega (arith, c.if-table-needed.false))

pub put_long_entries-requires : goal.put_long_entries-requires
put_long_entries-requires c =
    let w = short-read-table c.args.short.now c.args.count c.requires in
    (w.header.long, omega (arith, w.header.few, w.counted), omega (arith, c.if-table-needed.false, c.put_header.auto.moved))

pub returns : goal.returns
unfolding outcome_by to_long_outcome
returns c =
    let a = c.args in
    let w = short-read-table a.short.now a.count c.requires in
    let size : 3 + 67 * a.count ≡ 3 + length (long_entries a.count (drop header_length a.short.now)) = omega (arith, long-entries-size a.count (drop header_length a.short.now)) in
    two_clauses (λ a b. record { result_value = a; table_after = b }) (moved-left _ c.requires header_kind a.short.now _ _ a.table.now (long-made a.short.now w.counted) size c.if-table-needed.false _ _ c.put_header.ensures c.put_long_entries.ensures)
