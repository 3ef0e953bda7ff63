-- What decoding answers, for every input, in the order of the refusals. `reserved` says which rows are kept back.
use Rattle.std.specs.Prelude.{ℕ, ◌+◌, Bool, not, List, ltb, length}
use Rattle.basis.specs.Outcome.{Outcome, done, refused_if}
use Rattle.ascii.specs.Prefix.{has_prefix, after_prefix}
use Rattle.labels.specs.Tests.{marks_room_test, label_tests}
use Rattle.alphabet.specs.Alphabet.{lace}
use Rattle.base32.specs.Answer.{first_outside}
use Rattle.lace_format.specs.Prefix.{prefix}
use Rattle.lace_decoding.specs.Decoding.{is_readable, label_units, text_of}

-- decoding a label into a buffer of so many points: 1, 2, 3, 8, 7, 9, 6
unfoldable pub decode_outcome : (List ℕ → Bool) → ℕ → List ℕ → Outcome
decode_outcome reserved capacity l =
    label_tests capacity (length l)
    (refused_if (not (has_prefix prefix l)) 8 0
    (refused_if (ltb (first_outside lace (after_prefix prefix l)) (length (after_prefix prefix l))) 7 (4 + first_outside lace (after_prefix prefix l))
    (refused_if (not (is_readable l)) 9 0
    (refused_if (reserved (label_units l)) 6 0
    (done (length (text_of l)))))))

-- decoding a label into buffers of so many points and so many marks: 1 for the marks, then as without marks
unfoldable pub decode_marked_outcome : (List ℕ → Bool) → (text_capacity marks_capacity : ℕ) → List ℕ → Outcome
decode_marked_outcome reserved text_capacity marks_capacity l = marks_room_test marks_capacity (decode_outcome reserved text_capacity l)
