-- The causes of refusal that all schemes share, each by itself.
use Rattle.std.specs.Prelude.{ℕ, ◌<◌, ◌≡◌, Bool, not, List, ◌∷◌, length}
use Rattle.basis.specs.Tests.{IsFirst}
use Rattle.basis.specs.Rows.{at}
use Rattle.basis.specs.Causes.{Cause, whole, placed}
use Rattle.utf16.specs.Causes.{NotAPointAt}
use Rattle.labels.specs.Marks.{may_mark}

-- 2: empty
abbrev pub Empty : List ℕ → Type 0
Empty xs = length xs ≡ 0

-- 3: a label of over 63 bytes
abbrev pub TooLong : List ℕ → Type 0
TooLong l = 63 < length l

-- 15 at 0: not one mark for each point
abbrev pub OtherLength : (text marks : List ℕ) → Type 0
OtherLength t marks = length marks ≡ length t → ⊥

-- 15: a mark that may not be on its point, the first at index i
abbrev pub BadMarkAt : (keeps : Bool) (text marks : List ℕ) → ℕ → Type 0
BadMarkAt keeps t marks i = IsFirst (length t) (λ k. not (may_mark keeps (at t k) (at marks k))) i

-- 15 against writing a text with marks, before the later causes
abbrev pub marks_causes : (keeps : Bool) (text marks : List ℕ) → List Cause → List Cause
marks_causes keeps t marks later = whole 15 (OtherLength t marks) ∷ placed 15 (BadMarkAt keeps t marks) ∷ later

-- 2 and 4 against writing a text, before the later causes
abbrev pub text_causes : List ℕ → List Cause → List Cause
text_causes t later = whole 2 (Empty t) ∷ placed 4 (NotAPointAt t) ∷ later

-- 2 and 3 against reading a label, before the later causes
abbrev pub label_causes : List ℕ → List Cause → List Cause
label_causes l later = whole 2 (Empty l) ∷ whole 3 (TooLong l) ∷ later
