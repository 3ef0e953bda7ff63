-- `verdict` meets its contract: the header, the length in both directions, then what was judged.
use mathlib.Core.Path.{sym, ◌∙◌}
use native.Mathlib.Omega.{arith}
use Rattle.basis.specs.Outcome.{outcome_by}
use Rattle.basis.proofs.Outcome.{refusal_is, handed_on}
use Rattle.nametable_format.specs.Format.{header_kind}
use Rattle.nametable.proofs.TableLaws.{header_refused, header-lawful, size-cut, size-over, size-right}
use Rattle.nametable_receiver.specs.Receiving.{verdict_of}
use Rattle.nametable_receiver.proofs.verdict.Goals as goal

pub returns-in_err-count : goal.returns-in_err-count
unfolding verdict_of outcome_by
returns-in_err-count c = header_refused header_kind _ _ c.announced.ensures _ c.in_err-count.was (handed_on c.from_residual.ensures)

pub overflow_mul-length : goal.overflow_mul-length
unfolding verdict_of outcome_by
overflow_mul-length c =
    let h = header-lawful header_kind _ _ c.announced.ensures c.in_ok-count.was in omega (arith, h.0.few, h.1)

pub overflow_add-length : goal.overflow_add-length
unfolding verdict_of outcome_by
overflow_add-length c =
    let h = header-lawful header_kind _ _ c.announced.ensures c.in_ok-count.was in omega (arith, h.0.few, h.1)

pub returns-then-total-length : goal.returns-then-total-length
unfolding verdict_of outcome_by
returns-then-total-length c =
    let h = header-lawful header_kind _ _ c.announced.ensures c.in_ok-count.was in
    refusal_is c.at.ensures ∙ sym (size-cut _ h.0.is h.0.long h.1 (omega (arith, h.0.some, h.1)) (omega (arith, h.0.few, h.1)) _ _ (omega arith))

pub returns-then-length-total : goal.returns-then-length-total
unfolding verdict_of outcome_by
returns-then-length-total c =
    let h = header-lawful header_kind _ _ c.announced.ensures c.in_ok-count.was in
    refusal_is c.at-then-length-total.ensures ∙ sym (size-over _ h.0.is h.0.long h.1 (omega (arith, h.0.some, h.1)) (omega (arith, h.0.few, h.1)) _ _ (omega arith))

pub returns : goal.returns
unfolding verdict_of outcome_by
returns c =
    let h = header-lawful header_kind _ _ c.announced.ensures c.in_ok-count.was in
    sym (size-right _ h.0.is h.0.long h.1 (omega (arith, h.0.some, h.1)) (omega (arith, h.0.few, h.1)) _ _ (omega arith))
