-- What encoding and decoding answer, for every input, in the order of the refusals.
use Rattle.std.specs.Prelude.{ℕ, true, not, List, map, ltb, length}
use Rattle.basis.specs.Outcome.{Outcome, done, refused_if}
use Rattle.ascii.specs.Ldh.{has_edge_hyphen}
use Rattle.labels.specs.Tests.{text_tests, marks_room_test, label_tests}
use Rattle.labels.specs.Marks.{marks_tests}
use Rattle.altdude.specs.Symbols.{symbol_of, first_outside}
use Rattle.altdude.specs.Encoding.{label_of}
use Rattle.altdude.specs.Decoding.{is_readable, text_of}

-- encoding a text that passed the first tests: 5, 3
abbrev pub label_outcome : List ℕ → Outcome
label_outcome t =
    refused_if (has_edge_hyphen t) 5 0
    (refused_if (ltb 63 (length (label_of t))) 3 0
    (done (length (label_of t))))

-- encoding a text into a buffer of so many bytes: 1, 2, 4, 5, 3
unfoldable pub encode_outcome : ℕ → List ℕ → Outcome
encode_outcome capacity t = text_tests capacity t (label_outcome t)

-- encoding a text with marks: 1, 2, 4, 15, 5, 3
unfoldable pub encode_marked_outcome : ℕ → (text marks : List ℕ) → Outcome
encode_marked_outcome capacity t marks = text_tests capacity t (marks_tests true t marks (label_outcome t))

-- decoding a label into a buffer of so many points: 1, 2, 3, 7, 5, 9
unfoldable pub decode_outcome : ℕ → List ℕ → Outcome
decode_outcome capacity l =
    label_tests capacity (length l)
    (refused_if (ltb (first_outside l) (length l)) 7 (first_outside l)
    (refused_if (has_edge_hyphen l) 5 0
    (refused_if (not (is_readable 96 0 (map symbol_of l))) 9 0
    (done (length (text_of l))))))

-- decoding a label into buffers of so many points and so many marks: 1 for the marks, then as without marks
unfoldable pub decode_marked_outcome : (text_capacity marks_capacity : ℕ) → List ℕ → Outcome
decode_marked_outcome text_capacity marks_capacity l = marks_room_test marks_capacity (decode_outcome text_capacity l)
