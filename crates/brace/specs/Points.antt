-- BRACE from points and to points, as name tables and the directory of schemes use it.
use Rattle.std.specs.Prelude.{ℕ, List, length}
use Rattle.basis.specs.Outcome.{Outcome, done, and_then}
use Rattle.utf16.specs.Units.{to_units, to_points}
use Rattle.labels.specs.Tests.{text_tests}
use Rattle.brace_symbols.specs.Encoding as encoding
use Rattle.brace_text.specs.Decoding as decoding
use Rattle.brace.specs.Answer as answer

-- the label of a row of points: that of its units
unfoldable pub label_of : List ℕ → List ℕ
label_of t = encoding.label_of (to_units t)

-- the points of a label: those of its units
unfoldable pub text_of : List ℕ → List ℕ
text_of l = to_points (decoding.text_of l)

-- encoding a row of points: 1, 2, 4, then what encoding its units answers
unfoldable pub encode_outcome : ℕ → List ℕ → Outcome
encode_outcome capacity t = text_tests capacity t (answer.encode_outcome capacity (to_units t))

-- decoding into a buffer of so many points: what decoding to units answers; the count is of points
unfoldable pub decode_outcome : ℕ → List ℕ → Outcome
decode_outcome capacity l = and_then (λ position. position) (answer.decode_outcome capacity l) (done (length (text_of l)))
