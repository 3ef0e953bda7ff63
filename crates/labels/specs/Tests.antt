-- The first tests of writing and of reading, in the order of the refusals, before what follows.
use Rattle.std.specs.Prelude.{ℕ, List, eqb, ltb, length}
use Rattle.basis.specs.Outcome.{Outcome, refused_if}
use Rattle.utf16.specs.Points.{first_not_point}

-- a text that is to be written into so many bytes: 1, 2, 4
unfoldable pub text_tests : ℕ → List ℕ → Outcome → Outcome
text_tests capacity t next =
    refused_if (ltb capacity 63) 1 0
    (refused_if (eqb (length t) 0) 2 0
    (refused_if (ltb (first_not_point t) (length t)) 4 (first_not_point t)
    next))

-- a row for marks that are to be read: 1
unfoldable pub marks_room_test : ℕ → Outcome → Outcome
marks_room_test capacity next = refused_if (ltb capacity 63) 1 0 next

-- a label of so many bytes that is to be read into so many points: 1, 2, 3
unfoldable pub label_tests : ℕ → ℕ → Outcome → Outcome
label_tests capacity bytes next =
    refused_if (ltb capacity 63) 1 0
    (refused_if (eqb bytes 0) 2 0
    (refused_if (ltb 63 bytes) 3 0
    next))
