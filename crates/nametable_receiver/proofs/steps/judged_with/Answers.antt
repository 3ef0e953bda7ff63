-- `steps::judged_with` meets its contract: a refusal stays, else the entry is good or bad.
use native.Mathlib.Omega.{arith}
use borrow.Author.Rules.{rules}
use Rattle.basis.proofs.Outcome.{handed_on}
use Rattle.nametable_receiver.proofs.StepLaws.{refusal-stays, entry-refused, entry-good}
use Rattle.nametable_receiver.proofs.steps.judged_with.Goals as goal

pub returns-in_err-earlier : goal.returns-in_err-earlier
returns-in_err-earlier c = refusal-stays _ _ _ c.in_err-earlier.was (handed_on c.from_residual.ensures)

pub returns-in_err-lone_entry : goal.returns-in_err-lone_entry
returns-in_err-lone_entry c =
    entry-refused _ c.in_ok-earlier.was _ _ _ (omega arith) c.args.entry (search rules) _ c.lone_entry.ensures.result_value c.in_err-lone_entry.was (handed_on c.from_residual-in_err-lone_entry.ensures)

pub returns : goal.returns
returns c =
    entry-good _ c.in_ok-earlier.was _ _ _ (omega arith) c.args.entry (search rules) _ c.lone_entry.ensures.result_value c.in_ok-lone_entry.was
