-- What answering a chunk leaves: the lines that ended in it answered, and the bytes held of the one that did not.
use Rattle.std.specs.Prelude.{ℕ, ◌≡◌, List, length, take}
use Rattle.lines.specs.Step.{in_front}
use Rattle.lines.specs.Run.{ended_in, held_in}
use Rattle.bench_list.specs.Listing.{bench_lines}

-- after the bytes before of a line and a chunk: so many bytes are in front of the output that was old, and so many in front of the line
pub record Answered (limit : ℕ) (before chunk old out : List ℕ) (written : ℕ) (line : List ℕ) (held : ℕ) : Type 0 where
  pub count : written ≡ length (bench_lines (ended_in limit before chunk))
  pub front : out ≡ in_front (bench_lines (ended_in limit before chunk)) old
  pub held-count : held ≡ length (held_in limit before chunk)
  pub holds : take held line ≡ held_in limit before chunk
