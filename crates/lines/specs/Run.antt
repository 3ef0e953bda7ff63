-- The run over an input that comes in chunks: the lines that ended, and the bytes held of the one that did not.
use Rattle.std.specs.Prelude.{ℕ, List, [], ◌∷◌, ◌++◌, take}
use Rattle.basis.specs.Tests.{pick}
use Rattle.lines.specs.Lines.{is_line_feed}

-- what is held after one byte more: nothing after a line feed, else the line's first bytes, as many as the limit
unfoldable pub held_then : ℕ → List ℕ → ℕ → List ℕ
held_then limit held b = pick (is_line_feed b) [] (take limit (held ++ (b ∷ [])))

-- what is held, if the byte ends it, before the lines that end later
unfoldable pub ended_by : List ℕ → ℕ → List (List ℕ) → List (List ℕ)
ended_by held b lines = pick (is_line_feed b) (held ∷ lines) lines

-- the lines that end in a chunk
unfoldable pub ended_in : ℕ → List ℕ → List ℕ → List (List ℕ)
ended_in limit held [] = []
ended_in limit held (b ∷ bytes) = ended_by held b (ended_in limit (held_then limit held b) bytes)

-- what is held at a chunk's end
unfoldable pub held_in : ℕ → List ℕ → List ℕ → List ℕ
held_in limit held [] = held
held_in limit held (b ∷ bytes) = held_in limit (held_then limit held b) bytes

-- the lines that end in a row of chunks
unfoldable pub ended_in_all : ℕ → List ℕ → List (List ℕ) → List (List ℕ)
ended_in_all limit held [] = []
ended_in_all limit held (chunk ∷ chunks) = ended_in limit held chunk ++ ended_in_all limit (held_in limit held chunk) chunks

-- what is held after a row of chunks
unfoldable pub held_in_all : ℕ → List ℕ → List (List ℕ) → List ℕ
held_in_all limit held [] = held
held_in_all limit held (chunk ∷ chunks) = held_in_all limit (held_in limit held chunk) chunks

-- what is held at the end of input is a line if it has a byte
unfoldable pub last_line : List ℕ → List (List ℕ)
last_line [] = []
last_line (b ∷ held) = (b ∷ held) ∷ []

-- the lines that the run finds
unfoldable pub run_lines : ℕ → List (List ℕ) → List (List ℕ)
run_lines limit chunks = ended_in_all limit [] chunks ++ last_line (held_in_all limit [] chunks)
