-- `entries::judge` meets its contract: what is left to judge answers as the whole does.
use Prim.Native.Nat.{◌-◌}
use mathlib.Core.Path.{◌≡◌, sym, ◌∙◌}
use native.Mathlib.Omega.{arith}
use Rattle.basis.specs.Outcome.{outcome_by}
use Rattle.basis.proofs.Outcome.{handed_on}
use Rattle.nametable_format.specs.Format.{table_length}
use Rattle.nametable_format.proofs.Parts.{entry-part-long}
use Rattle.nametable.proofs.TableLaws.{turn-stops, turn-goes, none_left}
use Rattle.nametable.proofs.entries.judge.Goals as goal

pub loop-i-init : goal.loop-i-init
unfolding outcome_by
loop-i-init c = let n = c.args.count in let z : n - 0 ≡ n = omega arith in (omega arith, rw z)

pub overflow_mul-start : goal.overflow_mul-start
unfolding outcome_by
overflow_mul-start c = omega arith

pub overflow_add-start : goal.overflow_add-start
unfolding outcome_by
overflow_add-start c = omega arith

pub overflow_add-end : goal.overflow_add-end
unfolding outcome_by
overflow_add-end c = omega arith

pub slice_bounds-judge_entry-count : goal.slice_bounds-judge_entry-count
unfolding outcome_by
slice_bounds-judge_entry-count c = omega arith

pub slice_bounds-judge_entry-start : goal.slice_bounds-judge_entry-start
unfolding outcome_by
slice_bounds-judge_entry-start c = omega arith

pub slice_bounds-judge_entry-end : goal.slice_bounds-judge_entry-end
unfolding outcome_by
slice_bounds-judge_entry-end c = omega arith

pub judge_entry-requires : goal.judge_entry-requires
unfolding outcome_by
judge_entry-requires c = entry-part-long c.args.table.now (table_length c.loop-i.i) (omega arith)

pub returns-in_err-entry : goal.returns-in_err-entry
returns-in_err-entry c =
    turn-stops _ _ _ _ c.loop-i-test.true _ c.judge_entry.ensures c.in_err-entry.was (handed_on c.from_residual.ensures) ∙ c.loop-i.invariant.1

pub overflow_cast-least : goal.overflow_cast-least
unfolding outcome_by
overflow_cast-least c = omega arith

pub overflow_add-least : goal.overflow_add-least
unfolding outcome_by
overflow_add-least c = omega arith

pub loop-i-preserved : goal.loop-i-preserved
loop-i-preserved c =
    (omega arith, turn-goes _ _ _ _ c.loop-i-test.true _ c.judge_entry.ensures c.in_ok-entry.was ∙ c.loop-i.invariant.1)

pub returns : goal.returns
unfolding outcome_by
returns c = sym (none_left _ _ _ _ _ c.loop-i-test.false) ∙ c.loop-i.invariant.1
