-- What writing the symbols of a text answers, and so its label, in the order of the refusals.
use Rattle.std.specs.Prelude.{ℕ, Bool, ◌||◌, List, eqb, ltb, length}
use Rattle.basis.specs.Outcome.{Outcome, done, refused_if}
use Rattle.ascii.specs.Ldh.{has_edge_hyphen}
use Rattle.utf16.specs.Units.{first_unpaired}
use Rattle.brace_symbols.specs.Encoding.{label_of}

-- more than 63 units, or a label of over 63 bytes
unfoldable pub is_too_long : List ℕ → Bool
is_too_long t = ltb 63 (length t) || ltb 63 (length (label_of t))

-- encoding a text into a buffer of so many bytes: 1, 2, 10, 5, 3
unfoldable pub encode_outcome : ℕ → List ℕ → Outcome
encode_outcome capacity t =
    refused_if (ltb capacity 63) 1 0
    (refused_if (eqb (length t) 0) 2 0
    (refused_if (ltb (first_unpaired t) (length t)) 10 (first_unpaired t)
    (refused_if (has_edge_hyphen (label_of t)) 5 0
    (refused_if (is_too_long t) 3 0
    (done (length (label_of t)))))))
