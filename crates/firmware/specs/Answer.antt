-- What the C interface answers and leaves, for every input, in the order of the refusals.
use Rattle.std.specs.Prelude.{ℕ, ◌+◌, not, List, eqb, ltb, length}
use Rattle.basis.specs.Outcome.{Outcome, done, refused, refused_if, and_then}
use Rattle.utf16.specs.Bytes.{units_of_bytes, points_of, bytes_of}
use Rattle.utf16.specs.Answer.{is_odd, refused_unpaired}
use Rattle.scheme.specs.Naming.{number_names, is_known, scheme_named}
use Rattle.scheme.specs.Coding.{encode_outcome, decode_outcome, label_of, text_of}
use Rattle.scheme.specs.declared.Scheme.{Scheme}

-- the one number of an answer: the bytes written, or 1000 and the refusal's number
unfoldable pub answer_of : Outcome → ℕ
answer_of (done count) = count
answer_of (refused number position) = 1000 + number

-- writing a text of bytes under a scheme: 1 for a capacity under 63, 12, 2, 3 for more than 252
-- bytes, 10, then the scheme's
unfoldable pub write_by : Scheme → ℕ → List ℕ → Outcome
write_by s capacity bytes =
    refused_if (ltb capacity 63) 1 0
    (refused_if (is_odd (length bytes)) 12 0
    (refused_if (eqb (length bytes) 0) 2 0
    (refused_if (ltb 252 (length bytes)) 3 0
    (refused_unpaired (units_of_bytes bytes)
    (encode_outcome s capacity (points_of bytes))))))

-- writing under a number: 11 if it names no scheme, then the above
unfoldable pub write_outcome : ℕ → ℕ → List ℕ → Outcome
write_outcome number capacity bytes =
    refused_if (not (is_known (number_names number))) 11 0
    (write_by (scheme_named (number_names number)) capacity bytes)

-- the label that is written
unfoldable pub written_label : ℕ → List ℕ → List ℕ
written_label number bytes = label_of (scheme_named (number_names number)) (points_of bytes)

-- reading under a scheme: 1 for a capacity under 252, then the scheme's with room for 63 points; the
-- count is of bytes
unfoldable pub read_by : Scheme → ℕ → List ℕ → Outcome
read_by s capacity label =
    refused_if (ltb capacity 252) 1 0
    (and_then (λ position. position) (decode_outcome s 63 label)
    (done (length (bytes_of (text_of s label)))))

-- reading under a number: 11 if it names no scheme, then the above
unfoldable pub read_outcome : ℕ → ℕ → List ℕ → Outcome
read_outcome number capacity label =
    refused_if (not (is_known (number_names number))) 11 0
    (read_by (scheme_named (number_names number)) capacity label)

-- the text that is read, in bytes
unfoldable pub read_text : ℕ → List ℕ → List ℕ
read_text number label = bytes_of (text_of (scheme_named (number_names number)) label)
