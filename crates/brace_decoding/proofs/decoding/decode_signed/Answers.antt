-- The text is read to a local row; the comparison with the label decides whether it is copied.
use mathlib.Core.Path.{sym, ap, ◌∙◌}
use Prim.Native.Nat.{ℕ}
use mathlib.Core.List.{List, ◌++◌}
use lib.ListN.{drop}
use lib.Seq.{length-take-le}
use native.Mathlib.Omega.{arith}
use Rattle.basis.specs.Outcome.{done, outcome_by}
use Rattle.basis.proofs.Outcome.{refused-leaves, done-leaves}
use Rattle.utf16.specs.Answer.{units_outcome}
use Rattle.brace_decoding.specs.Answer.{decode_outcome}
use Rattle.brace_decoding.proofs.Comparison.{signed-long}
use Rattle.brace_decoding.proofs.DecodeLaws.{read-never, text-read, signed-refused, signed-done}
use Rattle.basis.proofs.Clauses.{two_clauses}
use Rattle.brace_decoding.proofs.decoding.decode_signed.Goals as goal

pub slice_bounds-read_body-count : goal.slice_bounds-read_body-count
slice_bounds-read_body-count c = signed-long _ c.requires.label_value

pub slice_bounds-read_body-length : goal.slice_bounds-read_body-length
slice_bounds-read_body-length c = let l = c.args.label.now in sym (length-take-le _ l (omega arith))

pub slice_bounds-text-end : goal.slice_bounds-text-end
unfolding outcome_by
slice_bounds-text-end c =
    let r = text-read c.args.label.now c.requires.label_value c.requires.in_bounds.2 _ (omega arith) _ _ _ (c.read_body.ensures.result_value, c.read_body.ensures.units_after) _ (ap units_outcome c.in_ok-count.was) in
    r.0

pub slice_bounds-row-end : goal.slice_bounds-row-end
unfolding outcome_by
slice_bounds-row-end c =
    let r = text-read c.args.label.now c.requires.label_value c.requires.in_bounds.2 _ (omega arith) _ _ _ (c.read_body.ensures.result_value, c.read_body.ensures.units_after) _ (ap units_outcome c.in_ok-count.was) in
    sym (length-take-le _ _ r.0)

-- 9 where the label is not that of the text
pub returns-then-not-has_label : goal.returns-then-not-has_label
unfolding outcome_by
returns-then-not-has_label c =
    let r = text-read c.args.label.now c.requires.label_value c.requires.in_bounds.2 _ (omega arith) _ _ _ (c.read_body.ensures.result_value, c.read_body.ensures.units_after) _ (ap units_outcome c.in_ok-count.was) in
    rw c.at.ensures (two_clauses (λ a b. record { result_value = a; units_after = b }) (refused-leaves (decode_outcome _ c.args.label.now) _ _ 9 0
    (signed-refused _ _ c.requires.in_bounds c.requires.label_value _ r.1 _ c.has_label.ensures c.if-not-has_label.true-raw)))

pub slice_bounds-copy_from_slice-end : goal.slice_bounds-copy_from_slice-end
unfolding outcome_by
slice_bounds-copy_from_slice-end c =
    let r = text-read c.args.label.now c.requires.label_value c.requires.in_bounds.2 _ (omega arith) _ _ _ (c.read_body.ensures.result_value, c.read_body.ensures.units_after) _ (ap units_outcome c.in_ok-count.was) in
    omega (arith, r.0, c.requires.in_bounds.0)

pub slice_bounds-copy_from_slice-end-2 : goal.slice_bounds-copy_from_slice-end-2
unfolding outcome_by
slice_bounds-copy_from_slice-end-2 c =
    let r = text-read c.args.label.now c.requires.label_value c.requires.in_bounds.2 _ (omega arith) _ _ _ (c.read_body.ensures.result_value, c.read_body.ensures.units_after) _ (ap units_outcome c.in_ok-count.was) in
    sym (length-take-le _ _ (omega (arith, r.0, c.requires.in_bounds.0)))

pub copy_from_slice-requires : goal.copy_from_slice-requires
unfolding outcome_by
copy_from_slice-requires c =
    let r = text-read c.args.label.now c.requires.label_value c.requires.in_bounds.2 _ (omega arith) _ _ _ (c.read_body.ensures.result_value, c.read_body.ensures.units_after) _ (ap units_outcome c.in_ok-count.was) in
    length-take-le _ _ (omega (arith, r.0, c.requires.in_bounds.0)) ∙ sym (length-take-le _ _ r.0)

-- there is room for the text
pub returns-in_err-count : goal.returns-in_err-count
unfolding outcome_by
returns-in_err-count c =
    absurd (read-never c.args.label.now c.requires.label_value c.requires.in_bounds.2 _ (omega arith) _ _ _ (c.read_body.ensures.result_value, c.read_body.ensures.units_after) _ _ (ap units_outcome c.in_err-count.was))

-- the units are the text where the label is theirs
pub returns : goal.returns
unfolding outcome_by
returns c =
    let r = text-read c.args.label.now c.requires.label_value c.requires.in_bounds.2 _ (omega arith) _ _ _ (c.read_body.ensures.result_value, c.read_body.ensures.units_after) _ (ap units_outcome c.in_ok-count.was) in
    two_clauses (λ a b. record { result_value = a; units_after = b }) (done-leaves (decode_outcome _ c.args.label.now) _ _ _ _
    (signed-done _ _ c.requires.in_bounds c.requires.label_value _ r.1 _ c.has_label.ensures c.if-not-has_label.false-raw ∙ ap done (sym r.2))
    (ap (λ (l : List ℕ). l ++ drop c.in_ok-count.count.0 c.args.units.now) (c.copy_from_slice.ensures.after ∙ r.1)))
