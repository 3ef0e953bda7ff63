-- What is claimed of marks: of any codec that takes and gives them, of AltDUDE and of LACE. The codecs are made of the definitions that
-- the contracts cite, in the specs/Marked.antt of altdude_facts and lace_facts.
use Rattle.std.specs.Prelude.{ℕ, ◌/◌, ◌%◌, ◌≤◌, ◌<◌, ◌≡◌, Bool, true, false, ◌↔◌, ◌⊎◌, List, [], ◌∷◌, ◌++◌, map, eqb, length, drop}
use Rattle.std.specs.Int.Bits.{bit_xor}
use Rattle.basis.specs.Tests.{pick}
use Rattle.basis.specs.Rows.{at}
use Rattle.basis.specs.Causes.{whole, Settles}
use Rattle.basis.specs.Codec.{Writable}
use Rattle.ascii.specs.Case.{capital, SameButCase}
use Rattle.labels.specs.Marks.{may_mark, no_marks}
use Rattle.labels.specs.MarkedCodec.{MarkedCodec, WritableWith}
use Rattle.altdude.specs.Symbols.{byte_of}
use Rattle.altdude.specs.Encoding.{leading_digits, remembered_after}
use Rattle.altdude_facts.specs.Marked as altdude
use Rattle.lace_facts.specs.Marked as lace
use Rattle.claims.specs.Demands.{Leaves}

module _ (m : MarkedCodec) where
  -- encoding the text t with marks into the buffer answers, and leaves the label l before its count
  abbrev pub WritesWith : (buffer t marks l : List ℕ) → Type 0
  WritesWith buffer t marks l = Leaves (m.encode_outcome (length buffer) t marks) (m.label_with marks t) buffer l

  -- decoding the bytes l into two buffers answers, and leaves the text t before the count of the one and the marks before that of the other
  abbrev pub ReadsWith : (text marks l t shown : List ℕ) → Type 0
  ReadsWith text marks l t shown =
      Leaves (m.decode_outcome (length text) (length marks) l) (m.codec.text_of l) text t
      × Leaves (m.decode_outcome (length text) (length marks) l) (m.marks_of l) marks shown

  pub record MarksOf : Type 0 where
    -- each refusal exactly as the first of its causes says, 1 for too little room before all others; and the old count otherwise
    pub encoding : (capacity : ℕ) (t marks : List ℕ)
        → Settles (whole 1 (capacity < 63) ∷ m.text_causes t marks) (length (m.codec.label_of t)) (m.encode_outcome capacity t marks)
    pub decoding : (text_capacity marks_capacity : ℕ) (l : List ℕ)
        → Settles (whole 1 (marks_capacity < 63) ∷ whole 1 (text_capacity < 63) ∷ m.codec.label_causes l) (length (m.codec.text_of l)) (m.decode_outcome text_capacity marks_capacity l)
    -- a text may be written with marks exactly if it may be written, and there is one mark for each point, which may be on it
    pub writable : (t marks : List ℕ)
        → WritableWith m t marks
        ↔ (Writable m.codec t × (length marks ≡ length t) × ((i : ℕ) → i < length t → may_mark m.keeps (at t i) (at marks i) ≡ true))
    -- encoding leaves a label exactly when the text may be written with the marks and this is their label
    pub writing : (buffer t marks l : List ℕ) → 63 ≤ length buffer → WritesWith buffer t marks l ↔ (WritableWith m t marks × (l ≡ m.label_with marks t))
    -- decoding leaves a text and marks exactly when the text may be written with the marks, and the label, with every character made
    -- small but those that show a mark, is theirs
    pub reading : (text marks l t shown : List ℕ) → 63 ≤ length text → 63 ≤ length marks
        → ReadsWith text marks l t shown ↔ (WritableWith m t shown × (m.small_but_marks l ≡ m.label_with shown t))
    -- marks of 0 give the answer and the label of encoding without marks
    pub zero_answer : (capacity : ℕ) (t : List ℕ) → m.encode_outcome capacity t (no_marks (length t)) ≡ m.codec.encode_outcome capacity t
    pub zero_label : (t : List ℕ) → m.label_with (no_marks (length t)) t ≡ m.codec.label_of t
    -- decoding without marks is decoding with them dropped: given the room for them, the same answer (the text is the same definition)
    pub dropped : (text_capacity marks_capacity : ℕ) (l : List ℕ) → 63 ≤ marks_capacity → m.decode_outcome text_capacity marks_capacity l ≡ m.codec.decode_outcome text_capacity l
    -- marks change nothing but case
    pub case_alone : (t marks : List ℕ) → SameButCase (m.codec.label_of t) (m.label_with marks t)
    -- two texts with marks that may be written have the same label exactly when texts and marks are equal
    pub same_label : (t marks u others : List ℕ) → WritableWith m t marks → WritableWith m u others
        → (m.label_with marks t ≡ m.label_with others u) ↔ ((t ≡ u) × (marks ≡ others))
    -- two accepted labels read as equal texts with equal marks exactly when they are equal once every character is made small but those
    -- that show a mark
    pub alike : (text marks l t shown text' marks' l' t' shown' : List ℕ) → 63 ≤ length text → 63 ≤ length marks → 63 ≤ length text' → 63 ≤ length marks'
        → ReadsWith text marks l t shown → ReadsWith text' marks' l' t' shown'
        → ((t ≡ t') × (shown ≡ shown')) ↔ (m.small_but_marks l ≡ m.small_but_marks l')

-- the last character of a group, of this digit, with the mark of its point
unfoldable pub last_character : (mark digit : ℕ) → ℕ
last_character mark digit = pick (eqb mark 1) (capital (byte_of digit)) (byte_of digit)

-- what a point with its mark is written as, before the rest: a hyphen; or the digits of its XOR with the remembered number but the last, as
-- 16 + digit, and then the last, which is a capital if the mark is 1
unfoldable pub drafted_item : (remembered mark point : ℕ) → List ℕ → List ℕ
drafted_item remembered mark p rest =
    pick (eqb p 45) (45 ∷ rest)
    (map byte_of (leading_digits (bit_xor p remembered / 16) (bit_xor p remembered / 16) []) ++ (last_character mark (bit_xor p remembered % 16) ∷ rest))

-- the label of a text with marks, point by point, from a remembered number on
unfoldable pub drafted_from : (remembered : ℕ) (marks text : List ℕ) → List ℕ
drafted_from remembered marks [] = []
drafted_from remembered marks (p ∷ t) = drafted_item remembered (at marks 0) p (drafted_from (remembered_after remembered p) (drop 1 marks) t)

-- marks of AltDUDE and of LACE; a mark may not be on a point exactly if it is neither 0 nor 1, is 1 on a hyphen, or is not 0 where the
-- scheme keeps no marks; and AltDUDE's label with marks is that of the draft, for all lists of numbers
pub record Marks : Type 0 where
  pub of_altdude : MarksOf altdude.marked_codec
  pub of_lace : MarksOf lace.marked_codec
  pub bad_mark : (keeps : Bool) (point mark : ℕ)
      → (may_mark keeps point mark ≡ false) ↔ (((mark ≡ 0 → ⊥) × (mark ≡ 1 → ⊥)) ⊎ (((mark ≡ 1) × (point ≡ 45)) ⊎ ((keeps ≡ false) × (mark ≡ 0 → ⊥))))
  pub as_drafted : (t marks : List ℕ) → (altdude.marked_codec).label_with marks t ≡ drafted_from 96 marks t
