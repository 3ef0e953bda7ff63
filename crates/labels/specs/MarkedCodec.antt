-- A codec that also takes and gives marks, of which the claims on marks speak.
use Rattle.std.specs.Prelude.{ℕ, Bool, List}
use Rattle.basis.specs.Outcome.{Outcome}
use Rattle.basis.specs.Causes.{Cause, NoCause}
use Rattle.basis.specs.Codec.{Codec}

-- the codec without marks; whether a mark may be 1; what encoding answers at a capacity to a text and its marks, and decoding at a
-- capacity of points and one of marks; the label of a text with marks, and the marks of a label; the causes against writing a
-- text with marks, capacity aside, in order; and a label with every character made small but those that show a mark
pub record MarkedCodec : Type 1 where
  pub codec : Codec
  pub keeps : Bool
  pub encode_outcome : (capacity : ℕ) (text marks : List ℕ) → Outcome
  pub decode_outcome : (text_capacity marks_capacity : ℕ) (label : List ℕ) → Outcome
  pub label_with : (marks text : List ℕ) → List ℕ
  pub marks_of : (label : List ℕ) → List ℕ
  pub text_causes : (text marks : List ℕ) → List Cause
  pub small_but_marks : (label : List ℕ) → List ℕ

-- a text may be written with these marks: no cause against it holds, capacity aside
abbrev pub WritableWith : MarkedCodec → (text marks : List ℕ) → Type 0
WritableWith c t marks = NoCause (c.text_causes t marks)
