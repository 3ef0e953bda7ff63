-- `writing::write_parts` meets its contract: part by part.
use mathlib.Core.Path.{sym, ap, ◌∙◌}
use lib.Dec.{eqb}
use native.Mathlib.Omega.{arith}
use borrow.Author.Tests.{tests}
use Rattle.std.proofs.Common.{rules}
use Rattle.std.proofs.lemmas.Iterator.Consumers.{YieldsList-at, YieldsList-from_enumerate}
use Rattle.std.proofs.lemmas.Iterator.Splits.{YieldsList-from_slice_split}
use Rattle.basis.specs.Outcome.{bytes_outcome, outcome_by}
use Rattle.basis.proofs.Outcome.{handed_on, done-not-refused}
use Rattle.basis.proofs.Clauses.{two_clauses}
use Rattle.host_name.specs.Parts.{dot}
use Rattle.host_name.proofs.Placing.{placing-low}
use Rattle.host_name.proofs.Turns.{writing-first, writing-dotted, writing-stops, writing_more, writing-last}
use Rattle.host_name.proofs.writing.write_parts.Goals as goal

pub loop-index-init : goal.loop-index-init
loop-index-init c =
    writing-first (YieldsList-at c.into_iter-index-iterator.ensures.into_iter_gives (YieldsList-from_enumerate
    (YieldsList-at c.enumerate-index-items.ensures.source (YieldsList-from_slice_split _ (λ x. eqb x dot) _ c.split.ensures.rest c.split.ensures.done c.split.ensures.closure (λ x b q k. search (rules, tests))))
    c.enumerate-index-items.ensures.count))

pub write_dot-at-requires : goal.write_dot-at-requires
write_dot-at-requires c = placing-low c.loop-index.invariant.placing

pub write_part-requires : goal.write_part-requires
write_part-requires c =
    placing-low (writing-dotted c.loop-index.invariant c.next.ensures.steps c.in-Some.is c.write_dot-at.ensures.made_after c.write_dot-at.ensures.value).1

pub returns-in_err-count : goal.returns-in_err-count
unfolding outcome_by
returns-in_err-count c =
    let stops = writing-stops c.loop-index.invariant c.next.ensures.steps c.in-Some.is _ _ c.write_part.ensures.result_value (ap bytes_outcome c.in_err-count.was) _ in
    record {
      result_value = ap bytes_outcome (handed_on c.from_residual.ensures) ∙ sym stops;
      by_index = λ n d h. absurd (done-not-refused d stops);
    }

pub loop-index-preserved : goal.loop-index-preserved
unfolding outcome_by
loop-index-preserved c =
    writing_more c.loop-index.invariant c.next.ensures.steps c.in-Some.is c.write_dot-at.ensures.made_after c.write_dot-at.ensures.value
    _ (sym (ap bytes_outcome c.in_ok-count.was) ∙ c.write_part.ensures.result_value) _ c.write_part.ensures.by_index

pub returns : goal.returns
unfolding outcome_by
returns c =
    two_clauses (λ a b. record { result_value = a; by_index = b }) (writing-last c.loop-index.invariant c.next.ensures.steps c.in-None.is (omega (arith, c.told-made)))
