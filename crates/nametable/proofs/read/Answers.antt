-- `read` meets its contract: the header, the length in both directions, and the entries last.
use mathlib.Core.Path.{sym, ◌∙◌}
use native.Mathlib.Omega.{arith}
use Rattle.basis.specs.Outcome.{outcome_by}
use Rattle.basis.proofs.Outcome.{refusal_is, handed_on}
use Rattle.nametable_format.specs.Format.{header_kind}
use Rattle.nametable.specs.Answer.{read_outcome}
use Rattle.nametable.proofs.TableLaws.{header_refused, header-lawful, cut-table, size-over, by_entries}
use Rattle.nametable.proofs.read.Goals as goal

pub returns-in_err-count : goal.returns-in_err-count
unfolding outcome_by read_outcome
returns-in_err-count c = header_refused header_kind _ _ c.header.ensures _ c.in_err-count.was (handed_on c.from_residual.ensures)

pub overflow_mul-length : goal.overflow_mul-length
unfolding outcome_by read_outcome
overflow_mul-length c =
    let h = header-lawful header_kind _ _ c.header.ensures c.in_ok-count.was in omega (arith, h.0.few, h.1)

pub overflow_add-length : goal.overflow_add-length
unfolding outcome_by read_outcome
overflow_add-length c =
    let h = header-lawful header_kind _ _ c.header.ensures c.in_ok-count.was in omega (arith, h.0.few, h.1)

pub returns-then-table-length : goal.returns-then-table-length
unfolding outcome_by read_outcome
returns-then-table-length c =
    let h = header-lawful header_kind _ _ c.header.ensures c.in_ok-count.was in refusal_is c.at.ensures ∙ sym (cut-table _ h.0.is h.0.long h.1 (omega (arith, h.0.some, h.1)) (omega (arith, h.0.few, h.1)) (omega arith))

pub returns-then-length-table : goal.returns-then-length-table
unfolding outcome_by read_outcome
returns-then-length-table c =
    let h = header-lawful header_kind _ _ c.header.ensures c.in_ok-count.was in refusal_is c.at-then-length-table.ensures ∙ sym (size-over _ h.0.is h.0.long h.1 (omega (arith, h.0.some, h.1)) (omega (arith, h.0.few, h.1)) _ _ (omega arith))

pub judge-requires : goal.judge-requires
unfolding outcome_by read_outcome
judge-requires c =
    let h = header-lawful header_kind _ _ c.header.ensures c.in_ok-count.was in (omega arith, omega (arith, h.0.few, h.1))

pub returns : goal.returns
unfolding outcome_by read_outcome
returns c =
    let h = header-lawful header_kind _ _ c.header.ensures c.in_ok-count.was in c.judge.ensures ∙ sym (by_entries _ h.0.is h.0.long h.1 (omega (arith, h.0.some, h.1)) (omega (arith, h.0.few, h.1)) (omega arith))
