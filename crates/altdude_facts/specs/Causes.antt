-- The causes of refusal, each by itself.
use Rattle.std.specs.Prelude.{ℕ, ◌-◌, ◌≡◌, true, not, ◌⊎◌, List, [], ◌∷◌, length}
use Rattle.basis.specs.Tests.{IsFirst}
use Rattle.basis.specs.Rows.{at}
use Rattle.basis.specs.Causes.{Cause, whole, placed}
use Rattle.labels.specs.Causes.{TooLong}
use Rattle.labels.specs.Causes as labels
use Rattle.altdude.specs.Symbols.{is_character}
use Rattle.altdude.specs.Encoding.{label_of}
use Rattle.altdude_facts.specs.WellFormed.{WellFormed}

-- 5: begins or ends with a hyphen
abbrev pub EdgeHyphen : List ℕ → Type 0
EdgeHyphen xs = (at xs 0 ≡ 45) ⊎ (at xs (length xs - 1) ≡ 45)

-- 7: a byte that is neither a hyphen nor one of the 32, the first at index i
abbrev pub OutsideAt : List ℕ → ℕ → Type 0
OutsideAt l i = IsFirst (length l) (λ k. not (is_character (at l k))) i

-- 9: not admitted by the rules of form
abbrev pub NotWellFormed : List ℕ → Type 0
NotWellFormed l = WellFormed l → ⊥

-- against writing a text that has passed the first tests, in order: 5, 3
abbrev pub own_text_causes : List ℕ → List Cause
own_text_causes t = whole 5 (EdgeHyphen t) ∷ whole 3 (TooLong (label_of t)) ∷ []

-- against writing a text, in order: 2, 4, 5, 3; with marks: 2, 4, 15, 5, 3
abbrev pub text_causes : List ℕ → List Cause
text_causes t = labels.text_causes t (own_text_causes t)

abbrev pub marked_text_causes : (text marks : List ℕ) → List Cause
marked_text_causes t marks = labels.text_causes t (labels.marks_causes true t marks (own_text_causes t))

-- against reading a label, in order: 2, 3, 7, 5, 9
abbrev pub label_causes : List ℕ → List Cause
label_causes l = labels.label_causes l (placed 7 (OutsideAt l) ∷ whole 5 (EdgeHyphen l) ∷ whole 9 (NotWellFormed l) ∷ [])
