-- Demands 2 and 3: what they say of a codec, and that of AltDUDE, LACE and BRACE; and demand 2 at the C interface. The codecs are made
-- of the definitions that the contracts cite, in the specs/Codec.antt of altdude_facts, lace_facts and brace_facts.
use Rattle.std.specs.Prelude.{ℕ, ◌≤◌, ◌<◌, ◌≡◌, true, ◌↔◌, List, ◌∷◌, length, take}
use Rattle.basis.specs.Rows.{AllBelow}
use Rattle.basis.specs.Causes.{whole, NoCause, Settles}
use Rattle.basis.specs.Outcome.{Outcome, done, refused, buffer_after}
use Rattle.basis.specs.Codec.{Codec, Writable}
use Rattle.ascii.specs.Case.{SameButCase}
use Rattle.ascii.specs.Ldh.{is_all_ldh}
use Rattle.altdude_facts.specs.WellFormed as altdude-form
use Rattle.altdude_facts.specs.Codec as altdude
use Rattle.lace_facts.specs.WellFormed as lace-form
use Rattle.lace_facts.specs.Codec as lace
use Rattle.brace_facts.specs.Codec as brace
use Rattle.scheme.specs.Naming.{number_names, scheme_named}
use Rattle.scheme.specs.Coding.{codec_of}
use Rattle.utf16.specs.Bytes.{points_of}
use Rattle.firmware.specs.Answer.{write_outcome, written_label, read_outcome, read_text}
use Rattle.firmware.specs.Causes.{UnknownNumber, bytes_causes, write_causes, read_causes}

-- a function with this outcome, which puts these values into the buffer, is done, and this row is before its count afterwards
pub record Leaves (outcome : Outcome) (values buffer row : List ℕ) : Type 0 where
  pub count : ℕ
  pub answers : outcome ≡ done count
  pub leaves : take count (buffer_after outcome values buffer) ≡ row

module _ (c : Codec) where
  -- decoding the bytes l into the buffer answers
  abbrev pub Accepts : List ℕ → List ℕ → Type 0
  Accepts buffer l = (count : ℕ) × (c.decode_outcome (length buffer) l ≡ done count)

  -- encoding the text t into the buffer answers, and leaves the label l before its count
  abbrev pub Writes : List ℕ → List ℕ → List ℕ → Type 0
  Writes buffer t l = Leaves (c.encode_outcome (length buffer) t) (c.label_of t) buffer l

  -- decoding the bytes l into the buffer answers, and leaves the text t before its count
  abbrev pub Reads : List ℕ → List ℕ → List ℕ → Type 0
  Reads buffer l t = Leaves (c.decode_outcome (length buffer) l) (c.text_of l) buffer t

  -- demand 2: each refusal exactly as the first of its causes says, 1 for a capacity under 63 before all others, and the
  -- label's or the text's length otherwise; encoding leaves a label exactly when the text may be written and this is its label;
  -- decoding leaves a text exactly when it may be written and these bytes count as its label
  pub record Demand2Of : Type 0 where
    pub encoding : (capacity : ℕ) (t : List ℕ) → Settles (whole 1 (capacity < 63) ∷ c.text_causes t) (length (c.label_of t)) (c.encode_outcome capacity t)
    pub decoding : (capacity : ℕ) (l : List ℕ) → Settles (whole 1 (capacity < 63) ∷ c.label_causes l) (length (c.text_of l)) (c.decode_outcome capacity l)
    pub writing : (buffer t l : List ℕ) → 63 ≤ length buffer → Writes buffer t l ↔ (Writable c t × (l ≡ c.label_of t))
    pub reading : (buffer l t : List ℕ) → 63 ≤ length buffer → Reads buffer l t ↔ (Writable c t × c.SameLabel t l)

  -- demand 3's last clause: two accepted labels read alike, in the codec's sense, exactly when they differ at most in the case of A to Z
  abbrev pub AlikeOf : Type 0
  AlikeOf =
      (buffer other l k t u : List ℕ) → 63 ≤ length buffer → 63 ≤ length other → Reads buffer l t → Reads other k u
      → c.SameText t u ↔ SameButCase l k

  -- demand 3, of a codec with rules of form, for every buffer of 63 elements or more
  pub record Demand3Of (WellFormed : List ℕ → Type 0) : Type 0 where
    -- bytes are accepted exactly when they are well formed
    pub accepted : (buffer l : List ℕ) → 63 ≤ length buffer → Accepts buffer l ↔ WellFormed l
    -- a well-formed label has a text that may be written, which decoding leaves, answering the number of its points
    pub exists : (buffer l : List ℕ) → 63 ≤ length buffer → WellFormed l
        → (t : List ℕ) × Writable c t × c.SameLabel t l × Reads buffer l t × (c.decode_outcome (length buffer) l ≡ done (length t))
    -- and no other, among all lists of numbers
    pub unique : (l t u : List ℕ) → WellFormed l → Writable c t → c.SameLabel t l → Writable c u → c.SameLabel u l → c.SameText t u
    pub alike : AlikeOf

-- the C interface: writing the bytes of a text under a number into the buffer answers, and leaves the label l before its count
abbrev pub WritesBytes : ℕ → List ℕ → List ℕ → List ℕ → Type 0
WritesBytes number buffer bytes l = Leaves (write_outcome number (length buffer) bytes) (written_label number bytes) buffer l

-- reading the bytes l under a number into the buffer answers, and leaves the bytes of a text before its count
abbrev pub ReadsBytes : ℕ → List ℕ → List ℕ → List ℕ → Type 0
ReadsBytes number buffer l bytes = Leaves (read_outcome number (length buffer) l) (read_text number l) buffer bytes

-- a text of bytes may be written under a number: no cause against it holds, capacity aside
abbrev pub MayWrite : ℕ → List ℕ → Type 0
MayWrite number bytes = NoCause (whole 11 (UnknownNumber number) ∷ bytes_causes (scheme_named (number_names number)) bytes)

-- bytes count as the label of a text of bytes under a number
abbrev pub SameLabelBy : ℕ → (bytes l : List ℕ) → Type 0
SameLabelBy number bytes l = (codec_of (scheme_named (number_names number))).SameLabel (points_of bytes) l

-- two numbers mean the same at the C interface: the same answers, labels and texts
pub record MeanTheSame (a b : ℕ) : Type 0 where
  pub writing : (capacity : ℕ) (bytes : List ℕ) → write_outcome a capacity bytes ≡ write_outcome b capacity bytes
  pub label : (bytes : List ℕ) → written_label a bytes ≡ written_label b bytes
  pub reading : (capacity : ℕ) (l : List ℕ) → read_outcome a capacity l ≡ read_outcome b capacity l
  pub text : (l : List ℕ) → read_text a l ≡ read_text b l

-- demand 2 at the C interface, for the same sentences; and what the house default means
pub record Demand2AtInterface : Type 0 where
  pub encoding : (number capacity : ℕ) (bytes : List ℕ) → Settles (write_causes number capacity bytes) (length (written_label number bytes)) (write_outcome number capacity bytes)
  pub decoding : (number capacity : ℕ) (l : List ℕ) → Settles (read_causes number capacity l) (length (read_text number l)) (read_outcome number capacity l)
  pub writing : (number : ℕ) (buffer bytes l : List ℕ) → 63 ≤ length buffer → WritesBytes number buffer bytes l ↔ (MayWrite number bytes × (l ≡ written_label number bytes))
  pub reading : (number : ℕ) (buffer l bytes : List ℕ) → 252 ≤ length buffer → AllBelow 256 bytes
      → ReadsBytes number buffer l bytes ↔ (MayWrite number bytes × SameLabelBy number bytes l)
  pub house_default : MeanTheSame 0 1

-- demand 2 of AltDUDE, LACE and BRACE, this one from units and from points, and carried to the C interface; an LDH text of more than
-- 63 points gets 3 from LACE
pub record Demand2 : Type 0 where
  pub of_altdude : Demand2Of altdude.codec
  pub of_lace : Demand2Of lace.codec
  pub of_brace : Demand2Of brace.codec
  pub of_brace_points : Demand2Of brace.points_codec
  pub long_ldh : (capacity : ℕ) (t : List ℕ) → 63 ≤ capacity → is_all_ldh t ≡ true → 63 < length t → (lace.codec).encode_outcome capacity t ≡ refused 3 0
  pub at_interface : Demand2AtInterface

-- demand 3 of AltDUDE and LACE, and its last clause of BRACE: its texts count as the same that differ at most in the case of A to Z
pub record Demand3 : Type 0 where
  pub of_altdude : Demand3Of altdude.codec altdude-form.WellFormed
  pub of_lace : Demand3Of lace.codec lace-form.WellFormed
  pub of_brace : AlikeOf brace.codec
  pub of_brace_points : AlikeOf brace.points_codec
