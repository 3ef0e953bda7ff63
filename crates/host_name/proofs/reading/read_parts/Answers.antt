-- `reading::read_parts` meets its contract: label by label.
use mathlib.Core.Path.{sym, ap, ◌∙◌}
use lib.Dec.{eqb}
use native.Mathlib.Omega.{arith}
use borrow.Author.Tests.{tests}
use Rattle.std.proofs.Common.{rules}
use Rattle.std.proofs.lemmas.Iterator.Consumers.{YieldsList-at, YieldsList-from_enumerate}
use Rattle.std.proofs.lemmas.Iterator.Splits.{YieldsList-from_slice_split}
use Rattle.basis.specs.Outcome.{outcome_by}
use Rattle.basis.proofs.Outcome.{handed_on, done-not-refused}
use Rattle.utf16.specs.Answer.{points_outcome}
use Rattle.basis.proofs.Clauses.{two_clauses}
use Rattle.host_name.specs.Parts.{dot}
use Rattle.host_name.proofs.Turns.{reading-first, reading-low, reading-stops, reading-room, reading-more, reading-last}
use Rattle.host_name.proofs.reading.read_parts.Goals as goal

pub loop-index-init : goal.loop-index-init
loop-index-init c =
    reading-first (YieldsList-at c.into_iter-index-iterator.ensures.into_iter_gives (YieldsList-from_enumerate
    (YieldsList-at c.enumerate-index-items.ensures.source (YieldsList-from_slice_split _ (λ x. eqb x dot) _ c.split.ensures.rest c.split.ensures.done c.split.ensures.closure (λ x b q k. search (rules, tests))))
    c.enumerate-index-items.ensures.count))

pub put_dot-at-requires : goal.put_dot-at-requires
put_dot-at-requires c = omega (arith, reading-low c.loop-index.invariant c.next.ensures.steps, c.requires)

pub read_part-requires : goal.read_part-requires
read_part-requires c =
    omega (arith, reading-room c.loop-index.invariant c.next.ensures.steps c.in-Some.is c.put_dot-at.ensures.made_after c.put_dot-at.ensures.value, c.requires)

pub returns-in_err-count : goal.returns-in_err-count
unfolding outcome_by
returns-in_err-count c =
    let stops = reading-stops c.loop-index.invariant c.next.ensures.steps c.in-Some.is _ _ c.read_part.ensures.result_value (ap points_outcome c.in_err-count.was) _ in
    record {
      result_value = ap points_outcome (handed_on c.from_residual.ensures) ∙ sym stops;
      by_index = λ n d. absurd (done-not-refused d stops);
    }

pub loop-index-preserved : goal.loop-index-preserved
unfolding outcome_by
loop-index-preserved c =
    reading-more c.loop-index.invariant c.next.ensures.steps c.in-Some.is c.put_dot-at.ensures.made_after c.put_dot-at.ensures.value
    _ (sym (ap points_outcome c.in_ok-count.was) ∙ c.read_part.ensures.result_value) _ c.read_part.ensures.by_index

pub returns : goal.returns
unfolding outcome_by
returns c =
    two_clauses (λ a b. record { result_value = a; by_index = b }) (reading-last c.loop-index.invariant c.next.ensures.steps c.in-None.is (omega (arith, c.requires, c.told-made)))
