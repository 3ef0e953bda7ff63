-- `entries::read_entry` meets its contract: the form's refusal, the label's own, or the entry.
use mathlib.Core.Path.{refl, ap}
use Rattle.std.proofs.Common.{Err}
use native.Mathlib.Omega.{arith}
use Rattle.nametable.proofs.EntryLaws.{refusal-answers, form-refused, label-refused, entry-answers}
use Rattle.basis.proofs.Clauses.{two_clauses}
use Rattle.nametable.proofs.entries.read_entry.Goals as goal

pub returns-in_default : goal.returns-in_default
returns-in_default c =
    two_clauses (λ a b. record { result_value = a; text_after = b }) (refusal-answers _ _ _ _ _ refl (ap Err c.at.ensures) (form-refused _ _ _ (rw c.in_default.is at c.form_of.ensures)))

pub slice_bounds-decode-count : goal.slice_bounds-decode-count
slice_bounds-decode-count c = let t = rw c.in-Some.is at c.form_of.ensures in omega (arith, t.3)

pub slice_bounds-decode-start : goal.slice_bounds-decode-start
slice_bounds-decode-start c = (let t = rw c.in-Some.is at c.form_of.ensures in omega (arith, t.3))

pub slice_bounds-decode-end : goal.slice_bounds-decode-end
slice_bounds-decode-end c = let t = rw c.in-Some.is at c.form_of.ensures in omega (arith, t.3, t.4, c.requires.len)

pub returns-in-Err : goal.returns-in-Err
returns-in-Err c =
    let t = rw c.in-Some.is at c.form_of.ensures in
    two_clauses (λ a b. record { result_value = a; text_after = b }) (label-refused _ c.args.position _ c.in-Some.form t _ _ c.requires.text_capacity_in_bounds _ c.decode.ensures.result_value c.decode.ensures.text_after c.in-Err.is c.at-in-Err.ensures)

pub returns-in-Ok : goal.returns-in-Ok
returns-in-Ok c =
    let t = rw c.in-Some.is at c.form_of.ensures in
    two_clauses (λ a b. record { result_value = a; text_after = b }) (entry-answers _ _ _ c.in-Some.form t _ _ c.requires.text_capacity_in_bounds _ c.decode.ensures.result_value c.decode.ensures.text_after c.in-Ok.is)
