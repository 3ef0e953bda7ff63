-- What a step leaves, for its caller: the line's room is kept, the bytes held lie within it, and the next line begins later.
use Prim.Native.Nat.{ℕ, ◌+◌, ◌≤◌, ◌<◌}
use mathlib.Core.Path.{◌≡◌, ap}
use mathlib.Core.List.{List}
use lib.ListN.{length, take, drop, length-append, length-drop}
use Rattle.std.proofs.Common.{Some}
use native.Mathlib.Omega.{arith}
use Rattle.basis.proofs.Parts.{front_fits, front_long}
use Rattle.lines.specs.Step.{line_end, held_after, in_front, step_answer}
use Rattle.lines.specs.declared.LineStep.{LineStep}
use Rattle.lines.proofs.Stepping.{answers-held, answers-ended, held-few}

module _ (chunk line : List ℕ) (held from : ℕ) (now : List ℕ) (is : now ≡ in_front (held_after (length line) (take held line) (drop from chunk)) line) where
  abbrev left : List ℕ
  left = drop from chunk

  -- what the step holds
  abbrev holding : List ℕ
  holding = held_after (length line) (take held line) left

  few : length holding ≤ length line
  few = held-few (length line) (take held line) left

  pub line_kept : length now ≡ length line
  line_kept = omega (arith, few, ap length is, length-append holding (drop (length holding) line), length-drop (length holding) line)

  module _ (answer : LineStep) (e : answer ≡ step_answer from left (length holding)) where
    -- the bytes held lie within the line's room
    pub line-held : answer.held ≡ length holding
    line-held = answers-held from left (length holding) answer e

    pub line-fits : answer.held ≤ length now
    line-fits = front_fits answer.held holding _ now line-held is

    pub line-long : answer.held ≡ length (take answer.held now)
    line-long = front_long answer.held holding _ now line-held is

    -- the line ended
    module _ (next : ℕ) (g : answer.next ≡ Some next) where
      pub ended : (line_end left < length left) × (next ≡ from + line_end left + 1)
      ended = answers-ended from left (length holding) answer e next g

      pub later : from < next
      later = omega (arith, ended.1)
