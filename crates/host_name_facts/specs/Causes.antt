-- The causes of refusal of a host name, each part's at its index.
use Rattle.std.specs.Prelude.{ℕ, suc, ◌<◌, ◌≡◌, true, false, List, [], ◌∷◌, length}
use Rattle.basis.specs.Tests.{pick}
use Rattle.basis.specs.Rows.{at}
use Rattle.basis.specs.Causes.{Cause, whole, moved_all}
use Rattle.ascii.specs.Ldh.{is_all_ldh, has_edge_hyphen, is_host_label}
use Rattle.ascii.specs.Prefix.{has_prefix}
use Rattle.labels.specs.Causes.{Empty}
use Rattle.labels.specs.Causes as labels
use Rattle.lace_format.specs.Prefix.{prefix}
use Rattle.lace_decoding.specs.Decoding.{text_of}
use Rattle.lace_facts.specs.Causes as lace
use Rattle.host_name.specs.Parts.{dot, parts_of}
use Rattle.host_name.specs.Answer.{name_of}

-- 16 when writing: a host label that begins lq--
abbrev pub TakenForLace : List ℕ → Type 0
TakenForLace part = (has_prefix prefix part ≡ true) × (is_host_label part ≡ true)

-- 16 when reading: a dot in the text
abbrev pub DotIn : List ℕ → Type 0
DotIn text = (i : ℕ) × (i < length text) × (at text i ≡ dot)

-- 3: a name of over 253 bytes
abbrev pub LongName : List ℕ → Type 0
LongName name = 253 < length name

-- against writing a part, in order: 2, 16, and if it is no host label LACE's own
abbrev pub written_part_causes : List ℕ → List Cause
written_part_causes part = whole 2 (Empty part) ∷ whole 16 (TakenForLace part) ∷ pick (is_host_label part) [] (lace.text_causes part)

-- against reading a label that begins lq--, in order: LACE's own, then 16; against reading any other: 2, 3, 7, 5
abbrev pub read_part_causes : List ℕ → List Cause
read_part_causes part =
    pick (has_prefix prefix part)
    (moved_all (λ position. position) (lace.label_causes part) (whole 16 (DotIn (text_of part)) ∷ []))
    (labels.label_causes part (whole 7 (is_all_ldh part ≡ false) ∷ whole 5 (has_edge_hyphen part ≡ true) ∷ []))

-- the causes against parts, each at its part's index, from this index on, before the later ones
unfoldable pub parts_causes : (List ℕ → List Cause) → ℕ → List (List ℕ) → List Cause → List Cause
parts_causes causes index [] later = later
parts_causes causes index (part ∷ parts) later = moved_all (λ _. index) (causes part) (parts_causes causes (suc index) parts later)

-- against writing a text as a name, in order: 2, those against its parts, 3
abbrev pub text_causes : List ℕ → List Cause
text_causes text = whole 2 (Empty text) ∷ parts_causes written_part_causes 0 (parts_of text) (whole 3 (LongName (name_of text)) ∷ [])

-- against reading a name, in order: 2, 3, those against its parts
abbrev pub name_causes : List ℕ → List Cause
name_causes name = whole 2 (Empty name) ∷ whole 3 (LongName name) ∷ parts_causes read_part_causes 0 (parts_of name) []
