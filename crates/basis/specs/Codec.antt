-- A codec as the demands speak of it: the definitions that its contracts cite.
use Rattle.std.specs.Prelude.{ℕ, List}
use Rattle.basis.specs.Causes.{Cause, NoCause}
use Rattle.basis.specs.Outcome.{Outcome}

-- what encoding and decoding answer at a capacity; the label of a text and the text of a label; the causes against writing a
-- text and against reading a label, capacity aside, in order; when given bytes count as the label of a text; and when two texts
-- count as the same
pub record Codec : Type 1 where
  pub encode_outcome : ℕ → List ℕ → Outcome
  pub decode_outcome : ℕ → List ℕ → Outcome
  pub label_of : List ℕ → List ℕ
  pub text_of : List ℕ → List ℕ
  pub text_causes : List ℕ → List Cause
  pub label_causes : List ℕ → List Cause
  pub SameLabel : (text label : List ℕ) → Type 0
  pub SameText : List ℕ → List ℕ → Type 0

-- a text may be written: no cause against it holds, capacity aside
abbrev pub Writable : Codec → List ℕ → Type 0
Writable c t = NoCause (c.text_causes t)

-- a label may be read: no cause against it holds, capacity aside
abbrev pub Readable : Codec → List ℕ → Type 0
Readable c l = NoCause (c.label_causes l)
