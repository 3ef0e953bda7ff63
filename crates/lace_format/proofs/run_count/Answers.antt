-- The loop counts the neighbours that differ; what is left is the count from the next unit on.
use lib.ListN.{length, length-drop}
use mathlib.Core.Path.{refl, ap, ◌∙◌}
use native.Mathlib.Omega.{arith}
use borrow.Author.Tests.{tests}
use Rattle.std.proofs.Common.{rules}
use Rattle.std.specs.Slice.Iter.{windows_rest}
use Rattle.lace_format.proofs.RowTests.{count_none, count-first, count_turn, count-all}
use Rattle.lace_format.proofs.run_count.Goals as goal

pub returns-then-is_empty-clause-value : goal.returns-then-is_empty-clause-value
returns-then-is_empty-clause-value c = count_none _ (search (rules, tests))

pub loop-pair-init : goal.loop-pair-init
loop-pair-init c =
    rw (c.into_iter-pair-iterator.ensures.into_iter_gives, c.windows-pair-items.ensures.rest, c.windows-pair-items.ensures.size)
    (refl, search (rules, tests), count-first _ (search (rules, tests)))

pub loop-pair-preserved : goal.loop-pair-preserved
loop-pair-preserved c =
    let l = c.loop-pair in
    let s = c.in-Some.ensures.steps in
    let t = count_turn _ l.invariant.0 (windows_rest l.pair-iterator) c.in-Some.pair.now _ s.1.0 s.1.1 s.1.2 _ c.change-r.ensures.value in
    (s.0 ∙ l.invariant.0, omega (arith, l.invariant.0, l.invariant.1, s.1.0, ap length s.1.2, length-drop 1 (windows_rest l.pair-iterator), c.change-r.ensures.upper_bound), omega (arith, l.invariant.2, t))

pub returns-clause-value : goal.returns-clause-value
returns-clause-value c =
    let s = c.in-None.ensures.steps in
    omega (arith, c.loop-pair.invariant.2, count-all _ c.loop-pair.invariant.0 (windows_rest c.loop-pair.pair-iterator) s.1.0)
