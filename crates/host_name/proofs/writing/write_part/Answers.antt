-- `writing::write_part` meets its contract: a refusal is told at the part's index, and else the label is counted.
use Prim.Native.Nat.{ℕ, ◌+◌}
use mathlib.Core.Path.{sym, ap, ◌∙◌}
use native.Mathlib.Omega.{arith}
use Rattle.basis.specs.Outcome.{done, bytes_outcome, outcome_by}
use Rattle.basis.proofs.Outcome.{refusal_is, done-not-refused, after-done}
use Rattle.host_name.specs.Answer.{part_label}
use Rattle.host_name.specs.Internal.{capped}
use Rattle.host_name.proofs.PartLaws.{written_has, put-behind, told_at}
use Rattle.host_name.proofs.writing.write_part.Goals as goal

pub overflow_add-at : goal.overflow_add-at
unfolding outcome_by
overflow_add-at c =
    omega (arith, c.requires, (written_has c.args.part.now _ (sym c.write_label.ensures.result_value ∙ ap bytes_outcome c.in-Ok.is)).1)

pub returns-in-Err : goal.returns-in-Err
unfolding outcome_by
returns-in-Err c =
    let e = sym c.write_label.ensures.result_value ∙ ap bytes_outcome c.in-Err.is in
    record {
      result_value = told_at _ _ _ _ e (refusal_is c.at.ensures);
      by_index = λ n d. absurd (done-not-refused d e);
    }

pub returns-in-Ok : goal.returns-in-Ok
unfolding outcome_by
returns-in-Ok c =
    let part = c.args.part.now in
    let e = sym c.write_label.ensures.result_value ∙ ap bytes_outcome c.in-Ok.is in
    record {
      result_value = ap done (c.capped_count.ensures ∙ ap (λ (n : ℕ). capped (c.args.at + n)) (written_has part _ e).0) ∙ sym (after-done (λ _. c.args.index) _ _ (_, e));
      by_index = λ n d. put-behind c.args.made.now (part_label part) _ 317 c.args.at n c.told-made (written_has part n d).0 (omega (arith, c.requires, (written_has part n d).1)) (c.write_label.ensures.by_index n d);
    }
