-- What decoding answers, for every input, in the order of the refusals.
use Rattle.std.specs.Prelude.{ℕ, Bool, true, false, not, List, ltb, length}
use Rattle.basis.specs.Tests.{both, first_in}
use Rattle.basis.specs.Outcome.{Outcome, done, refused, refused_if}
use Rattle.ascii.specs.Ldh.{is_ldh, has_edge_hyphen}
use Rattle.labels.specs.Tests.{label_tests}
use Rattle.alphabet.specs.Alphabet.{brace}
use Rattle.copying.specs.Symbols.{are_for}
use Rattle.brace_format.specs.Signature.{is_signed}
use Rattle.brace_symbols.specs.Encoding.{symbols_of}
use Rattle.brace_text.specs.Decoding.{text_of}
use Rattle.brace_symbols.specs.Answer.{encode_outcome}

-- an outcome is done
unfoldable pub is_done : Outcome → Bool
is_done (done count) = true
is_done (refused number position) = false

-- the bytes are read to a text that may be written and has this label
unfoldable pub is_lawful : List ℕ → Bool
is_lawful l = both (is_done (encode_outcome 63 (text_of l))) (are_for brace (symbols_of (text_of l)) l)

-- the index of the first byte that is not LDH, or the length
unfoldable pub first_not_ldh : List ℕ → ℕ
first_not_ldh l = first_in (λ b. not (is_ldh b)) l

-- decoding a label into a buffer of so many units: 1, 2, 3, without the signature 7 and 5, then 9
unfoldable pub decode_outcome : ℕ → List ℕ → Outcome
decode_outcome capacity l =
    label_tests capacity (length l)
    (refused_if (both (not (is_signed l)) (ltb (first_not_ldh l) (length l))) 7 (first_not_ldh l)
    (refused_if (both (not (is_signed l)) (has_edge_hyphen l)) 5 0
    (refused_if (not (is_lawful l)) 9 0
    (done (length (text_of l))))))
