-- What is printed for a table: a line for each entry, or one line with the refusal.
use Rattle.std.specs.Prelude.{ℕ, zero, suc, List, [], ◌++◌}
use Rattle.basis.specs.Outcome.{Outcome, done, refused}
use Rattle.scheme.specs.Naming.{letter_of}
use Rattle.nametable_format.specs.Format.{entry_at, reader_of, scheme_in}
use Rattle.nametable.specs.Answer.{read_outcome, entry_text}
use Rattle.report.specs.Lines.{list_line, refused_at_line}

-- the line of the entry at an index: reader number, letter of the scheme and points
unfoldable pub entry_line : List ℕ → ℕ → List ℕ
entry_line table index = list_line (reader_of (entry_at table index)) (letter_of (scheme_in (entry_at table index))) (entry_text table index)

-- the lines of the first entries, so many
unfoldable pub entry_lines : List ℕ → ℕ → List ℕ
entry_lines table zero = []
entry_lines table (suc count) = entry_lines table count ++ entry_line table count

-- after the table's own verdict
unfoldable pub listing_after : Outcome → List ℕ → List ℕ
listing_after (done count) table = entry_lines table count
listing_after (refused number position) table = refused_at_line number position

-- what is printed for a table
unfoldable pub listing : List ℕ → List ℕ
listing table = listing_after (read_outcome table) table
