-- What the writer of a line answers, and the room that programs pass it.
use Rattle.std.specs.Prelude.{ℕ, List, ltb, length}
use Rattle.basis.specs.Outcome.{Outcome, done, refused_if}

-- the room that a program passes for a line
abbrev pub line_room : ℕ
line_room = 600

-- writing a line into a buffer of so many bytes: 1 if it does not fit, else its length
unfoldable pub line_outcome : List ℕ → ℕ → Outcome
line_outcome line capacity = refused_if (ltb capacity (length line)) 1 0 (done (length line))
