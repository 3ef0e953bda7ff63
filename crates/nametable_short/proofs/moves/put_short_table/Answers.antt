-- `moves::put_short_table` meets its contract: the room, then the header and the entries.
use native.Mathlib.Omega.{arith}
use Rattle.basis.specs.Outcome.{outcome_by}
use Rattle.basis.proofs.Outcome.{refusal-leaves, refusal_is}
use Rattle.nametable.proofs.TableLaws.{read_table}
use Rattle.nametable_short_format.specs.Format.{short_header_kind}
use Rattle.nametable_short.specs.Answer.{to_short_outcome}
use Rattle.nametable_short.proofs.MoveLaws.{short-made, move-no-room, moved-left}
use Rattle.basis.proofs.Clauses.{two_clauses}
use Rattle.nametable_short.proofs.moves.put_short_table.Goals as goal

pub short_bytes-needed-requires : goal.short_bytes-needed-requires
short_bytes-needed-requires c =
    let w = read_table c.args.table.now c.args.count c.requires in (w.long, omega (arith, w.few, w.counted))

pub returns-then-short-needed : goal.returns-then-short-needed
unfolding outcome_by to_short_outcome
returns-then-short-needed c =
    let a = c.args in
    let w = read_table a.table.now a.count c.requires in
    two_clauses (λ a b. record { result_value = a; short_after = b }) (refusal-leaves _ _ _ _ 1 0 (refusal_is c.at.ensures)
    (move-no-room _ c.requires short_header_kind a.table.now _ _ a.short.now (short-made a.table.now w.counted) c.short_bytes-needed.ensures c.if-short-needed.true))

pub put_header-requires : goal.put_header-requires
put_header-requires c =
    let w = read_table c.args.table.now c.args.count c.requires in (omega (arith, w.long), omega (arith, c.short_bytes-needed.ensures))

pub put_short_entries-requires : goal.put_short_entries-requires
put_short_entries-requires c =
    let w = read_table c.args.table.now c.args.count c.requires in
    record {
      table_len = (w.long, omega (arith, w.few, w.counted));
      table_in_bounds = omega (arith, c.short_bytes-needed.ensures, c.put_header.auto.moved);
    }

pub returns : goal.returns
unfolding outcome_by to_short_outcome
returns c =
    let a = c.args in
    let w = read_table a.table.now a.count c.requires in
    two_clauses (λ a b. record { result_value = a; short_after = b }) (moved-left _ c.requires short_header_kind a.table.now _ _ a.short.now (short-made a.table.now w.counted) c.short_bytes-needed.ensures (omega arith) _ _ c.put_header.ensures c.put_short_entries.ensures)
