-- What is printed for a line, for a row of lines, and by the run over an input that comes in chunks.
use Rattle.std.specs.Prelude.{ℕ, List, [], ◌∷◌, ◌++◌, Result}
use Rattle.basis.specs.Outcome.{Outcome, done, refused}
use Rattle.utf16.specs.Bytes.{points_of}
use Rattle.firmware.specs.Answer.{read_outcome, read_text}
use Rattle.report.specs.Lines.{points_line, refused_line}
use Rattle.lines.specs.Run.{ended_in, held_in, last_line}
use Rattle.streams.specs.Reading.{believed}
use Rattle.streams.specs.declared.ReadFailed.{ReadFailed}

-- the points of a text that was read, or the number of the refusal
unfoldable pub line_for : Outcome → List ℕ → List ℕ
line_for (done count) text = points_line text
line_for (refused number position) text = refused_line number

-- the number of the scheme that the C interface is asked for: LACE
abbrev pub scheme_number : ℕ
scheme_number = 2

-- what is printed for a line: what the C interface reads it as, with room for any text
unfoldable pub bench_line : List ℕ → List ℕ
bench_line label = line_for (read_outcome scheme_number 252 label) (points_of (read_text scheme_number label))

-- what is printed for a row of lines
unfoldable pub bench_lines : List (List ℕ) → List ℕ
bench_lines [] = []
bench_lines (line ∷ lines) = bench_line line ++ bench_lines lines

-- the bytes that are held of a line: one more than a label has at most
abbrev pub held_room : ℕ
held_room = 64

-- what the run prints over a row of chunks, after the bytes held: the lines that end in each, and when reading ends what is
-- believed of the last line
unfoldable pub printed : Result (Unit {0}) ReadFailed → List ℕ → List (List ℕ) → List ℕ
printed ending held [] = bench_lines (last_line (believed ending held))
printed ending held (chunk ∷ chunks) = bench_lines (ended_in held_room held chunk) ++ printed ending (held_in held_room held chunk) chunks
