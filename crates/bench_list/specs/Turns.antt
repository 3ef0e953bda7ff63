-- What a turn leaves: the answers to the lines that end in bytes that were read, or nothing new once reading is over.
use Rattle.std.specs.Prelude.{ℕ, ◌≡◌, List, length, take, Option, Some, None, Result, Ok, Err}
use Rattle.std.specs.declared.ops.ControlFlow.{ControlFlow}
use Rattle.std.specs.declared.ops.ControlFlow.TheVariants.{Continue, Break}
use Rattle.streams.specs.declared.ReadFailed.{ReadFailed}
use Rattle.bench_list.specs.declared.chunks.Progress.{Progress}
use Rattle.bench_list.specs.Answered.{Answered}

-- the answer of a read after which reading is over, by how it ended
unfoldable pub over : Result (Unit {0}) ReadFailed → Result (Option ℕ) ReadFailed
over (Ok ended) = Ok None
over (Err failed) = Err failed

-- after a read's answer, with so many bytes held of a line: the bytes that were got in front of the chunk are answered; or
-- reading is over as the answer says, and the line and the output hold what they held
unfoldable pub TurnLeaves : Result (Option ℕ) ReadFailed → ℕ → (chunk line₀ line out₀ out : List ℕ) → ControlFlow (Result (Unit {0}) ReadFailed) Progress → Type 0
TurnLeaves answer held chunk line₀ line out₀ out (Continue progress) =
    (got : ℕ) × (answer ≡ Ok (Some got)) × Answered (length line₀) (take held line₀) (take got chunk) out₀ out progress.written line progress.held
TurnLeaves answer held chunk line₀ line out₀ out (Break ending) = (answer ≡ over ending) × ((line ≡ line₀) × (out ≡ out₀))
