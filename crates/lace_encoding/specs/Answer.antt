-- What encoding answers, for every input, in the order of the refusals. `reserved` says which rows are kept back.
use Rattle.std.specs.Prelude.{ℕ, Bool, false, List, ltb, length}
use Rattle.basis.specs.Outcome.{Outcome, done, refused_if}
use Rattle.labels.specs.Tests.{text_tests}
use Rattle.labels.specs.Marks.{marks_tests}
use Rattle.lace_encoding.specs.Encoding.{label_of}

-- encoding a text that passed the first tests: 6, 3
abbrev pub label_outcome : (List ℕ → Bool) → List ℕ → Outcome
label_outcome reserved t =
    refused_if (reserved t) 6 0
    (refused_if (ltb 63 (length (label_of t))) 3 0
    (done (length (label_of t))))

-- encoding a text into a buffer of so many bytes: 1, 2, 4, 6, 3
unfoldable pub encode_outcome : (List ℕ → Bool) → ℕ → List ℕ → Outcome
encode_outcome reserved capacity t = text_tests capacity t (label_outcome reserved t)

-- encoding a text with marks, which must all be 0: 1, 2, 4, 15, 6, 3
unfoldable pub encode_marked_outcome : (List ℕ → Bool) → ℕ → (text marks : List ℕ) → Outcome
encode_marked_outcome reserved capacity t marks = text_tests capacity t (marks_tests false t marks (label_outcome reserved t))
