-- What writing and reading a host name answer, part by part, for every input, in the order of the refusals.
use Rattle.std.specs.Prelude.{ℕ, suc, not, List, [], ◌∷◌, map, eqb, ltb, length}
use Rattle.basis.specs.Tests.{pick, both}
use Rattle.basis.specs.Outcome.{Outcome, done, refused_if, and_then}
use Rattle.ascii.specs.Ldh.{is_all_ldh, has_edge_hyphen, is_host_label}
use Rattle.ascii.specs.Prefix.{has_prefix}
use Rattle.lace_format.specs.Prefix.{prefix}
use Rattle.lace_encoding.specs.Encoding.{label_of}
use Rattle.lace_decoding.specs.Decoding.{text_of}
use Rattle.lace.specs.Answer as lace
use Rattle.host_name.specs.Parts.{has_dot, parts_of, joined}

-- the label of a part of a text: a host label is its own, any other part has that of LACE
unfoldable pub part_label : List ℕ → List ℕ
part_label part = pick (is_host_label part) part (label_of part)

-- writing a part: 2, 16 for a host label that begins lq--, which would be read as LACE; a host label is copied, and any other
-- part is answered by LACE
unfoldable pub part_written : List ℕ → Outcome
part_written part =
    refused_if (eqb (length part) 0) 2 0
    (refused_if (both (has_prefix prefix part) (is_host_label part)) 16 0
    (pick (is_host_label part) (done (length part)) (lace.encode_outcome is_host_label 63 part)))

-- the text of a label: after lq-- that of LACE, any other label is its own
unfoldable pub part_text : List ℕ → List ℕ
part_text part = pick (has_prefix prefix part) (text_of part) part

-- reading a label that begins lq--: as LACE answers, then 16 for a text that holds a dot, which would be read as two parts
unfoldable pub lace_read : List ℕ → Outcome
lace_read part =
    and_then (λ position. position) (lace.decode_outcome is_host_label 63 part)
    (refused_if (has_dot (text_of part)) 16 0
    (done (length (text_of part))))

-- reading any other label, which must be a host label: 3, 7, 5
unfoldable pub plain_read : List ℕ → Outcome
plain_read part =
    refused_if (ltb 63 (length part)) 3 0
    (refused_if (not (is_all_ldh part)) 7 0
    (refused_if (has_edge_hyphen part) 5 0
    (done (length part))))

-- reading a part: 2, then as its beginning says
unfoldable pub part_read : List ℕ → Outcome
part_read part =
    refused_if (eqb (length part) 0) 2 0
    (pick (has_prefix prefix part) (lace_read part) (plain_read part))

-- the parts in turn, from this index on: the first that is refused, at its index, or what follows them all
unfoldable pub in_turn : (List ℕ → Outcome) → ℕ → List (List ℕ) → Outcome → Outcome
in_turn answer index [] next = next
in_turn answer index (part ∷ parts) next = and_then (λ _. index) (answer part) (in_turn answer (suc index) parts next)

-- the name of a text, and the text of a name
unfoldable pub name_of : List ℕ → List ℕ
name_of text = joined (map part_label (parts_of text))

unfoldable pub text_of_name : List ℕ → List ℕ
text_of_name name = joined (map part_text (parts_of name))

-- writing a text as a name into a buffer of so many bytes: 1, 2, then its parts, then 3
unfoldable pub encode_outcome : ℕ → List ℕ → Outcome
encode_outcome capacity text =
    refused_if (ltb capacity 253) 1 0
    (refused_if (eqb (length text) 0) 2 0
    (in_turn part_written 0 (parts_of text)
    (refused_if (ltb 253 (length (name_of text))) 3 0
    (done (length (name_of text))))))

-- reading a name into a buffer of so many points: 1, 2, 3, then its parts
unfoldable pub decode_outcome : ℕ → List ℕ → Outcome
decode_outcome capacity name =
    refused_if (ltb capacity 253) 1 0
    (refused_if (eqb (length name) 0) 2 0
    (refused_if (ltb 253 (length name)) 3 0
    (in_turn part_read 0 (parts_of name)
    (done (length (text_of_name name))))))
