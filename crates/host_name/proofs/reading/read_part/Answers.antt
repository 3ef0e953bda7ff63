-- `reading::read_part` meets its contract: a refusal is told at the label's index, and else its text is counted.
use Prim.Native.Nat.{ℕ, ◌+◌}
use mathlib.Core.Path.{sym, ap, ◌∙◌}
use native.Mathlib.Omega.{arith}
use Rattle.basis.specs.Outcome.{done, outcome_by}
use Rattle.basis.proofs.Outcome.{refusal_is, done-not-refused, after-done}
use Rattle.utf16.specs.Answer.{points_outcome}
use Rattle.host_name.specs.Answer.{part_text}
use Rattle.host_name.proofs.PartLaws.{read_has, put-behind, told_at}
use Rattle.host_name.proofs.reading.read_part.Goals as goal

pub overflow_add-result : goal.overflow_add-result
unfolding outcome_by
overflow_add-result c =
    omega (arith, c.requires, (read_has c.args.label.now _ (sym c.read_label.ensures.result_value ∙ ap points_outcome c.in-Ok.is)).1)

pub returns-in-Err : goal.returns-in-Err
unfolding outcome_by
returns-in-Err c =
    let e = sym c.read_label.ensures.result_value ∙ ap points_outcome c.in-Err.is in
    record {
      result_value = told_at _ _ _ _ e (refusal_is c.at.ensures);
      by_index = λ n d. absurd (done-not-refused d e);
    }

pub returns-in-Ok : goal.returns-in-Ok
unfolding outcome_by
returns-in-Ok c =
    let label = c.args.label.now in
    let e = sym c.read_label.ensures.result_value ∙ ap points_outcome c.in-Ok.is in
    record {
      result_value = ap (λ (n : ℕ). done (c.args.at + n)) (read_has label _ e).0 ∙ sym (after-done (λ _. c.args.index) _ _ (_, e));
      by_index = λ n d. put-behind c.args.made.now (part_text label) _ 316 c.args.at n c.told-made (read_has label n d).0 (omega (arith, c.requires, (read_has label n d).1)) (c.read_label.ensures.by_index n d);
    }
