-- `entries::judge` meets its contract: what is left to judge answers as the whole does.
use Prim.Native.Nat.{◌-◌}
use mathlib.Core.Path.{◌≡◌, sym, ap, ◌∙◌}
use native.Mathlib.Omega.{arith}
use Rattle.basis.specs.Outcome.{outcome_by}
use Rattle.basis.proofs.Outcome.{refusal_is, handed_on}
use Rattle.nametable.specs.Answer.{table_outcome}
use Rattle.nametable_short_read.proofs.StepLaws.{short-turn-stops, short-turn-goes, bytes-left-over, nothing-left-over}
use Rattle.nametable_short_read.proofs.entries.judge.Goals as goal

pub loop-i-init : goal.loop-i-init
unfolding outcome_by
loop-i-init c =
    let n = c.args.count in let z : n - 0 ≡ n = omega arith in (omega arith, c.requires, rw z)

pub returns-in_err-judged : goal.returns-in_err-judged
unfolding outcome_by
returns-in_err-judged c =
    ap table_outcome (handed_on c.from_residual.ensures) ∙ sym (short-turn-stops c.args.table.now c.args.count c.loop-i.i c.loop-i.least c.loop-i.start c.loop-i-test.true _ c.judge_next.ensures c.in_err-judged.was) ∙ c.loop-i.invariant.2

pub loop-i-preserved : goal.loop-i-preserved
unfolding outcome_by
loop-i-preserved c =
    let goes = short-turn-goes _ _ _ _ _ c.loop-i-test.true _ c.judge_next.ensures c.in_ok-judged.was in (omega arith, goes.0, goes.1 ∙ c.loop-i.invariant.2)

pub returns-then-start-table : goal.returns-then-start-table
unfolding outcome_by
returns-then-start-table c = refusal_is c.at.ensures ∙ sym (bytes-left-over _ _ _ _ _ c.loop-i-test.false c.if-start-table.true) ∙ c.loop-i.invariant.2

pub returns : goal.returns
unfolding outcome_by
returns c = sym (nothing-left-over _ _ _ _ _ c.loop-i-test.false c.if-start-table.false) ∙ c.loop-i.invariant.2
