-- The causes of refusal of the C interface, each by itself.
use Rattle.std.specs.Prelude.{ℕ, ◌<◌, ◌≡◌, List, ◌∷◌, length}
use Rattle.basis.specs.Causes.{Cause, whole, placed}
use Rattle.utf16.specs.Bytes.{units_of_bytes, points_of}
use Rattle.utf16.specs.Causes.{OddBytes, UnpairedAt}
use Rattle.labels.specs.Causes.{Empty}
use Rattle.scheme.specs.Naming.{number_of, number_names, scheme_named}
use Rattle.scheme.specs.Coding.{codec_of}
use Rattle.scheme.specs.declared.Scheme.{Scheme}

-- 11: the number is neither 0 nor any scheme's
abbrev pub UnknownNumber : ℕ → Type 0
UnknownNumber number = (number ≡ 0 → ⊥) × ((s : Scheme) → number ≡ number_of s → ⊥)

-- 3: over 252 bytes
abbrev pub TextTooLong : List ℕ → Type 0
TextTooLong bytes = 252 < length bytes

-- against writing a text of bytes under a scheme, room aside: 12, 2, 3, 10, then the scheme's
abbrev pub bytes_causes : Scheme → List ℕ → List Cause
bytes_causes s bytes =
    whole 12 (OddBytes bytes) ∷ whole 2 (Empty bytes) ∷ whole 3 (TextTooLong bytes) ∷ placed 10 (UnpairedAt (units_of_bytes bytes)) ∷ (codec_of s).text_causes (points_of bytes)

-- against writing: 11, 1 for a capacity under 63, then the above
abbrev pub write_causes : ℕ → ℕ → List ℕ → List Cause
write_causes number capacity bytes = whole 11 (UnknownNumber number) ∷ whole 1 (capacity < 63) ∷ bytes_causes (scheme_named (number_names number)) bytes

-- against reading: 11, 1 for a capacity under 252, then the scheme's
abbrev pub read_causes : ℕ → ℕ → List ℕ → List Cause
read_causes number capacity label = whole 11 (UnknownNumber number) ∷ whole 1 (capacity < 252) ∷ (codec_of (scheme_named (number_names number))).label_causes label
