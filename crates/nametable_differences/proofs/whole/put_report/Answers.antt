-- `whole::put_report` meets its contract, by what is answered for both tables.
use mathlib.Core.Path.{sym, ap, ◌∙◌}
use Rattle.basis.specs.Outcome.{outcome_by, bytes_outcome}
use Rattle.report.specs.Lines.{left_word, right_word}
use Rattle.nametable_differences.proofs.FormLaws.{form-fits, form-long, form-is, form-reads, left-reported, right-reported, rows-reported}
use Rattle.basis.proofs.Clauses.{two_clauses}
use Rattle.nametable_differences.proofs.whole.put_report.Goals as goal

pub slice_bounds-left_long-end : goal.slice_bounds-left_long-end
unfolding outcome_by
slice_bounds-left_long-end c =
    form-fits _ _ _ (sym c.put_long_form-left_judged.ensures.result_value ∙ ap bytes_outcome c.in-Ok.is) c.put_long_form-left_judged.ensures.long_after

pub slice_bounds-left_table-end : goal.slice_bounds-left_table-end
unfolding outcome_by
slice_bounds-left_table-end c =
    form-long _ _ _ (sym c.put_long_form-left_judged.ensures.result_value ∙ ap bytes_outcome c.in-Ok.is) c.put_long_form-left_judged.ensures.long_after

pub slice_bounds-right_long-end : goal.slice_bounds-right_long-end
unfolding outcome_by
slice_bounds-right_long-end c =
    form-fits _ _ _ (sym c.put_long_form-right_judged.ensures.result_value ∙ ap bytes_outcome c.in-Ok-right_judged.is) c.put_long_form-right_judged.ensures.long_after

pub slice_bounds-right_table-end : goal.slice_bounds-right_table-end
unfolding outcome_by
slice_bounds-right_table-end c =
    form-long _ _ _ (sym c.put_long_form-right_judged.ensures.result_value ∙ ap bytes_outcome c.in-Ok-right_judged.is) c.put_long_form-right_judged.ensures.long_after

pub invariant_of-left_table : goal.invariant_of-left_table
unfolding outcome_by
invariant_of-left_table c =
    record { whole = form-reads _ _ _ (sym c.put_long_form-left_judged.ensures.result_value ∙ ap bytes_outcome c.in-Ok.is) c.put_long_form-left_judged.ensures.long_after }

pub invariant_of-right_table : goal.invariant_of-right_table
unfolding outcome_by
invariant_of-right_table c =
    record { whole = form-reads _ _ _ (sym c.put_long_form-right_judged.ensures.result_value ∙ ap bytes_outcome c.in-Ok-right_judged.is) c.put_long_form-right_judged.ensures.long_after }

pub put_rows-requires : goal.put_rows-requires
put_rows-requires c = c.requires

pub returns-in-Err : goal.returns-in-Err
unfolding outcome_by left_word
returns-in-Err c =
    two_clauses (λ a b. record { value = a; out_after = b }) (rw (left-reported c.args.left.now c.args.right.now (sym c.put_long_form-left_judged.ensures.result_value ∙ ap bytes_outcome c.in-Err.is)) (c.put_refusal.ensures.value, c.put_refusal.ensures.out_after))

pub returns-in-Err-right_judged : goal.returns-in-Err-right_judged
unfolding outcome_by right_word
returns-in-Err-right_judged c =
    two_clauses (λ a b. record { value = a; out_after = b }) (rw (right-reported c.args.left.now c.args.right.now (sym c.put_long_form-left_judged.ensures.result_value ∙ ap bytes_outcome c.in-Ok.is) (sym c.put_long_form-right_judged.ensures.result_value ∙ ap bytes_outcome c.in-Err-right_judged.is))
    (c.put_refusal-in-Err-right_judged.ensures.value, c.put_refusal-in-Err-right_judged.ensures.out_after))

pub returns-in-Ok-right_judged : goal.returns-in-Ok-right_judged
unfolding outcome_by
returns-in-Ok-right_judged c =
    let is = sym c.put_long_form-left_judged.ensures.result_value ∙ ap bytes_outcome c.in-Ok.is in
    let js = sym c.put_long_form-right_judged.ensures.result_value ∙ ap bytes_outcome c.in-Ok-right_judged.is in
    two_clauses (λ a b. record { value = a; out_after = b }) (rw (rows-reported c.args.left.now c.args.right.now is js, ← form-is _ _ _ is c.put_long_form-left_judged.ensures.long_after, ← form-is _ _ _ js c.put_long_form-right_judged.ensures.long_after) (c.put_rows.ensures.value, c.put_rows.ensures.out_after))
