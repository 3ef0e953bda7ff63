-- `bytes_written` meets its contract: an answer is bytes or an error.
use Rattle.std.proofs.Common.{rules, ◌≡◌, ℕ, Result, Ok, Err, tests}
use Rattle.std.specs.Result.{MatchResult}
use Rattle.basis.specs.declared.ByteCount.{ByteCount}
use Rattle.basis.specs.declared.Refusal.{Refusal}
use Rattle.basis.specs.Outcome.{count_of, outcome_by, bytes_outcome}
use Rattle.basis.proofs.bytes_written.Goals as goal

pub returns : goal.returns
unfolding outcome_by count_of
returns c = search (rules, tests)
