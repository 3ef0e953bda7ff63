-- The causes of refusal, each by itself.
use Rattle.std.specs.Prelude.{ℕ, ◌-◌, ◌<◌, ◌≡◌, not, ◌⊎◌, List, [], ◌∷◌, length, drop}
use Rattle.basis.specs.Tests.{IsFirst}
use Rattle.basis.specs.Rows.{at, AllBelow}
use Rattle.basis.specs.Causes.{Cause, whole, placed, NoCause}
use Rattle.ascii.specs.Ldh.{is_ldh}
use Rattle.utf16.specs.Units.{to_units}
use Rattle.utf16.specs.Causes.{UnpairedAt}
use Rattle.labels.specs.Causes.{Empty}
use Rattle.labels.specs.Causes as labels
use Rattle.alphabet.specs.Alphabet.{brace}
use Rattle.copying.specs.Symbols.{SameLabel, capital}
use Rattle.brace_format.specs.Signature.{signature}
use Rattle.brace_symbols.specs.Encoding.{symbols_of, label_of}

-- ends with the signature, in either case
abbrev pub Signed : List ℕ → Type 0
Signed l = SameLabel brace capital signature (drop (length l - 4) l)

-- 5: begins or ends with a hyphen
abbrev pub EdgeHyphen : List ℕ → Type 0
EdgeHyphen xs = (at xs 0 ≡ 45) ⊎ (at xs (length xs - 1) ≡ 45)

-- 3: more than 63 units, or a label of over 63 bytes
abbrev pub TooLong : List ℕ → Type 0
TooLong t = (63 < length t) ⊎ (63 < length (label_of t))

-- against writing a row of units, in order: 2, 10, 5, 3
abbrev pub text_causes : List ℕ → List Cause
text_causes t = whole 2 (Empty t) ∷ placed 10 (UnpairedAt t) ∷ whole 5 (EdgeHyphen (label_of t)) ∷ whole 3 (TooLong t) ∷ []

-- against writing a row of points, in order: 2, 4, then 5 and 3 of its units
abbrev pub points_causes : List ℕ → List Cause
points_causes t = labels.text_causes t (whole 5 (EdgeHyphen (label_of (to_units t))) ∷ whole 3 (TooLong (to_units t)) ∷ [])

-- the bytes l are the label of t: the copied letters byte for byte, all else but for case
abbrev pub Spells : (t l : List ℕ) → Type 0
Spells t l = SameLabel brace capital (symbols_of t) l

-- and t is a row of units
abbrev pub SpellsUnits : (t l : List ℕ) → Type 0
SpellsUnits t l = AllBelow 65536 t × Spells t l

-- 7: without the signature, a byte that is not LDH, the first at index i
abbrev pub OutsideAt : List ℕ → ℕ → Type 0
OutsideAt l i = (Signed l → ⊥) × IsFirst (length l) (λ k. not (is_ldh (at l k))) i

-- 9: no row of units that may be written has this label
abbrev pub NoText : List ℕ → Type 0
NoText l = (t : List ℕ) → NoCause (text_causes t) → SpellsUnits t l → ⊥

-- against reading a label, in order: 2, 3, without the signature 7 and 5, then 9
abbrev pub label_causes : List ℕ → List Cause
label_causes l = labels.label_causes l (placed 7 (OutsideAt l) ∷ whole 5 ((Signed l → ⊥) × EdgeHyphen l) ∷ whole 9 (NoText l) ∷ [])
