-- One step: the bytes that are left of a chunk up to the first line feed, behind those held of a line.
use Rattle.std.specs.Prelude.{ℕ, ◌+◌, List, ◌++◌, ltb, length, take, drop, Some, None}
use Rattle.basis.specs.Tests.{pick, first_in}
use Rattle.lines.specs.Lines.{is_line_feed}
use Rattle.lines.specs.declared.LineStep.{LineStep}

-- the index of the first line feed, or the length
unfoldable pub line_end : List ℕ → ℕ
line_end left = first_in is_line_feed left

-- what is held of the line then: its first bytes, as many as the limit
unfoldable pub held_after : ℕ → List ℕ → List ℕ → List ℕ
held_after limit held left = take limit (held ++ take (line_end left) left)

-- a buffer with the values in front, and behind them what it held
abbrev pub in_front : List ℕ → List ℕ → List ℕ
in_front values buffer = values ++ drop (length values) buffer

-- the answer, of what is left from an index on: with a line feed the line ended, and the next begins behind it
unfoldable pub step_answer : ℕ → List ℕ → ℕ → LineStep
step_answer from left held = record { next = pick (ltb (line_end left) (length left)) (Some (from + line_end left + 1)) None; held = held }
