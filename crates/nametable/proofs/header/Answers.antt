-- `header` meets its contract: each test answers in its turn.
use mathlib.Core.Path.{sym, ◌∙◌}
use native.Mathlib.Omega.{arith}
use Rattle.basis.specs.Outcome.{outcome_by}
use Rattle.basis.proofs.Outcome.{refusal_is}
use Rattle.nametable_format.specs.Format.{count_of}
use Rattle.nametable.specs.Answer.{header_outcome}
use Rattle.nametable.proofs.TableLaws.{empty-header, other-kind, short-header, no-entries, many-entries, header-passed}
use Rattle.nametable.proofs.header.Goals as goal

pub returns-then-table-eq0 : goal.returns-then-table-eq0
unfolding count_of outcome_by header_outcome
returns-then-table-eq0 c = refusal_is c.at.ensures ∙ sym (empty-header _ c.args.table.now _ (omega arith))

pub returns-then-first-kind : goal.returns-then-first-kind
unfolding count_of outcome_by header_outcome
returns-then-first-kind c =
    let t = c.args.table.now in refusal_is c.at-then-first-kind.ensures ∙ sym (other-kind _ t _ (λ e. omega arith) (λ e. omega arith))

pub returns-then-table-lt-HEADER_LENGTH : goal.returns-then-table-lt-HEADER_LENGTH
unfolding count_of outcome_by header_outcome
returns-then-table-lt-HEADER_LENGTH c =
    let t = c.args.table.now in refusal_is c.at-then-table-lt-HEADER_LENGTH.ensures ∙ sym (short-header _ t _ (λ e. omega arith) (omega arith) (omega arith))

pub returns-then-count-lt1 : goal.returns-then-count-lt1
unfolding count_of outcome_by header_outcome
returns-then-count-lt1 c =
    let t = c.args.table.now in refusal_is c.at-then-count-lt1.ensures ∙ sym (no-entries _ t _ (omega arith) (omega arith) c.number_at-count.ensures.0 (omega arith))

pub returns-then-count-gt-MOST_ENTRIES : goal.returns-then-count-gt-MOST_ENTRIES
unfolding count_of outcome_by header_outcome
returns-then-count-gt-MOST_ENTRIES c =
    let t = c.args.table.now in refusal_is c.at-then-count-gt-MOST_ENTRIES.ensures ∙ sym (many-entries _ t _ (omega arith) (omega arith) c.number_at-count.ensures.0 (omega arith))

pub returns : goal.returns
unfolding count_of outcome_by header_outcome
returns c =
    let t = c.args.table.now in sym (header-passed _ t _ (omega arith) (omega arith) c.number_at-count.ensures.0 (omega arith) (omega arith) ∙ rw c.number_at-count.ensures.0)
