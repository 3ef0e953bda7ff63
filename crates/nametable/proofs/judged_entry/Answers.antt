-- `judged_entry` meets its contract: the capacity, the header, the index and the length in turn,
-- then the entry by itself.
use mathlib.Core.Path.{refl, ap}
use Rattle.std.proofs.Common.{Err}
use native.Mathlib.Omega.{arith}
use Rattle.nametable_format.specs.Format.{count_of}
use Rattle.nametable.proofs.EntryLaws.{refusal-answers}
use Rattle.nametable.proofs.TableLaws.{judged-no-room, judged-no-header, judged-no-entry, judged-cut, judged-read, part-read}
use Rattle.basis.proofs.Clauses.{two_clauses}
use Rattle.nametable.proofs.judged_entry.Goals as goal

pub returns-then-text-lt-TEXT_CAPACITY : goal.returns-then-text-lt-TEXT_CAPACITY
unfolding count_of
returns-then-text-lt-TEXT_CAPACITY c =
    two_clauses (λ a b. record { result_value = a; text_after = b }) (refusal-answers _ _ _ _ _ refl (ap Err c.at.ensures) (judged-no-room _ _ _ c.if-text-lt-TEXT_CAPACITY.true))

pub returns-then-table-lt-HEADER_LENGTH : goal.returns-then-table-lt-HEADER_LENGTH
unfolding count_of
returns-then-table-lt-HEADER_LENGTH c =
    two_clauses (λ a b. record { result_value = a; text_after = b }) (refusal-answers _ _ _ _ _ refl (ap Err c.at-then-table-lt-HEADER_LENGTH.ensures) (judged-no-header _ _ _ c.if-text-lt-TEXT_CAPACITY.false c.if-table-lt-HEADER_LENGTH.true))

pub returns-then-count-index : goal.returns-then-count-index
unfolding count_of
returns-then-count-index c =
    two_clauses (λ a b. record { result_value = a; text_after = b }) (refusal-answers _ _ _ _ _ refl (ap Err c.at-then-count-index.ensures) (judged-no-entry _ _ _ c.if-text-lt-TEXT_CAPACITY.false c.if-table-lt-HEADER_LENGTH.false c.number_at-count.ensures.0 c.if-count-index.true))

pub returns-then-table-end : goal.returns-then-table-end
unfolding count_of
returns-then-table-end c =
    two_clauses (λ a b. record { result_value = a; text_after = b }) (refusal-answers _ _ _ _ _ refl (ap Err c.at-then-table-end.ensures) (judged-cut _ _ _ c.if-text-lt-TEXT_CAPACITY.false c.if-table-lt-HEADER_LENGTH.false c.number_at-count.ensures.0 c.if-count-index.false c.if-table-end.true))

pub returns : goal.returns
unfolding count_of
returns c =
    two_clauses (λ a b. record { result_value = a; text_after = b }) (part-read _ c.args.index _ _ _ _ _ _ (c.read_entry.ensures.result_value, c.read_entry.ensures.text_after) refl refl (judged-read _ _ _ c.if-text-lt-TEXT_CAPACITY.false c.if-table-lt-HEADER_LENGTH.false c.number_at-count.ensures.0 c.if-count-index.false (omega arith)))
