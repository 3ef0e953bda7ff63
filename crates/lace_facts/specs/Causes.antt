-- The causes of refusal, each by itself.
use Rattle.std.specs.Prelude.{ℕ, ◌+◌, ◌<◌, ◌≡◌, true, false, List, [], ◌∷◌}
use Rattle.basis.specs.Rows.{at}
use Rattle.basis.specs.Causes.{Cause, whole, placed}
use Rattle.ascii.specs.Case.{small}
use Rattle.ascii.specs.Prefix.{after_prefix}
use Rattle.ascii.specs.Ldh.{is_host_label}
use Rattle.labels.specs.Causes.{TooLong}
use Rattle.labels.specs.Causes as labels
use Rattle.alphabet.specs.Alphabet.{lace}
use Rattle.base32.specs.Causes.{OutsideAt}
use Rattle.lace_format.specs.Prefix.{prefix}
use Rattle.lace_encoding.specs.Encoding.{label_of}
use Rattle.lace_facts.specs.WellFormed.{Formed}

-- 8: the prefix is missing
abbrev pub NoPrefix : List ℕ → Type 0
NoPrefix l = ((i : ℕ) → i < 4 → small (at l i) ≡ at prefix i) → ⊥

-- 7: a byte after the prefix that is none of the 32, the first at this index of the label
abbrev pub OutsideAfterPrefix : List ℕ → ℕ → Type 0
OutsideAfterPrefix l position = (i : ℕ) × (position ≡ 4 + i) × OutsideAt lace (after_prefix prefix l) i

-- 9: not admitted by the rules of form, the last aside
abbrev pub NotFormed : List ℕ → Type 0
NotFormed l = (units : List ℕ) → Formed l units → ⊥

-- 6: only the last rule fails, since the units are a host label
abbrev pub OnlyHostLabel : List ℕ → Type 0
OnlyHostLabel l = (units : List ℕ) × Formed l units × (is_host_label units ≡ true)

-- against writing a text that has passed the first tests, in order: 6, 3
abbrev pub own_text_causes : List ℕ → List Cause
own_text_causes t = whole 6 (is_host_label t ≡ true) ∷ whole 3 (TooLong (label_of t)) ∷ []

-- against writing a text, in order: 2, 4, 6, 3; with marks: 2, 4, 15, 6, 3
abbrev pub text_causes : List ℕ → List Cause
text_causes t = labels.text_causes t (own_text_causes t)

abbrev pub marked_text_causes : (text marks : List ℕ) → List Cause
marked_text_causes t marks = labels.text_causes t (labels.marks_causes false t marks (own_text_causes t))

-- against reading a label, in order: 2, 3, 8, 7, 9, 6
abbrev pub label_causes : List ℕ → List Cause
label_causes l =
    labels.label_causes l (whole 8 (NoPrefix l) ∷ placed 7 (OutsideAfterPrefix l) ∷ whole 9 (NotFormed l) ∷ whole 6 (OnlyHostLabel l) ∷ [])
