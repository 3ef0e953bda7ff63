-- `EntryList::judge` meets its contract: what is left to judge answers as the whole does.
use mathlib.Core.Path.{refl, sym, ◌∙◌}
use native.Mathlib.Omega.{arith}
use Rattle.basis.specs.Outcome.{outcome_by}
use Rattle.nametable_write.proofs.ListLaws.{points-next, judge-stops, judge-goes, judge-ends}
use Rattle.nametable_write.proofs.entry_list.EntryList.judge.Goals as goal

pub loop-i-init : goal.loop-i-init
unfolding outcome_by
loop-i-init c = (omega (arith, c.args.self.now.rows.summed), refl)

pub overflow_add-end : goal.overflow_add-end
unfolding outcome_by
overflow_add-end c =
    omega (arith, points-next c.args.self.now c.loop-i.i c.loop-i.start c.loop-i-test.true c.loop-i.invariant.0)

pub slice_bounds-judge_listed-end : goal.slice_bounds-judge_listed-end
unfolding outcome_by
slice_bounds-judge_listed-end c =
    omega (arith, points-next c.args.self.now c.loop-i.i c.loop-i.start c.loop-i-test.true c.loop-i.invariant.0)

pub returns-in-Err : goal.returns-in-Err
returns-in-Err c =
    judge-stops c.args.self.now _ _ c.loop-i-test.true _ _ _ c.judge_listed.ensures c.in-Err.is c.at.ensures ∙ c.loop-i.invariant.1

pub loop-i-preserved : goal.loop-i-preserved
loop-i-preserved c =
    (points-next c.args.self.now _ _ c.loop-i-test.true c.loop-i.invariant.0, judge-goes c.args.self.now _ _ c.loop-i-test.true _ _ _ c.judge_listed.ensures c.in_default.is ∙ c.loop-i.invariant.1)

pub returns : goal.returns
unfolding outcome_by
returns c = sym (judge-ends c.args.self.now c.loop-i.i _ c.loop-i.start _ c.loop-i-test.false) ∙ c.loop-i.invariant.1
