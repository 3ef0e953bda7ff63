-- The facts about a codec with marks from which the claims on marks follow.
use Prim.Native.Nat.{ℕ, ◌<◌}
use mathlib.Core.Path.{◌≡◌}
use mathlib.Core.Logic.{◌↔◌}
use mathlib.Core.List.{List, ◌∷◌}
use lib.ListN.{length}
use Rattle.basis.specs.Causes.{whole, Settles}
use Rattle.basis.specs.Codec.{Writable, Readable}
use Rattle.labels.specs.Tests.{marks_room_test}
use Rattle.labels.specs.Marks.{no_marks}
use Rattle.labels.specs.MarkedCodec.{MarkedCodec, WritableWith}
use Rattle.labels.proofs.MarkTests.{LawfulMarks}

module _ (m : MarkedCodec) where
  pub record MarkFacts : Type 0 where
    -- the causes settle what encoding answers; decoding first tests the room for marks
    pub encoding : (capacity : ℕ) (t marks : List ℕ)
        → Settles (whole 1 (capacity < 63) ∷ m.text_causes t marks) (length (m.codec.label_of t)) (m.encode_outcome capacity t marks)
    pub decoding : (text_capacity marks_capacity : ℕ) (l : List ℕ)
        → m.decode_outcome text_capacity marks_capacity l ≡ marks_room_test marks_capacity (m.codec.decode_outcome text_capacity l)
    -- a text may be written with marks exactly if it may be written, and they are lawful
    pub writable : (t marks : List ℕ) → WritableWith m t marks ↔ (Writable m.codec t × LawfulMarks m.keeps t marks)
    -- marks of 0 change neither the answer nor the label, and others change a label to one that counts as the text's
    pub zero-answer : (capacity : ℕ) (t : List ℕ) → m.encode_outcome capacity t (no_marks (length t)) ≡ m.codec.encode_outcome capacity t
    pub zero-label : (t : List ℕ) → m.label_with (no_marks (length t)) t ≡ m.codec.label_of t
    pub same-label : (t marks : List ℕ) → m.codec.SameLabel t (m.label_with marks t)
    -- a label has one mark for each point of its text, and if it may be read they are lawful
    pub as_many : (l : List ℕ) → length (m.marks_of l) ≡ length (m.codec.text_of l)
    pub lawful : (l : List ℕ) → Readable m.codec l → LawfulMarks m.keeps (m.codec.text_of l) (m.marks_of l)
    -- the marks that a text is written with are those of the label
    pub shown : (t marks : List ℕ) → WritableWith m t marks → m.marks_of (m.label_with marks t) ≡ marks
    -- made small but where it shows marks, a label has the same marks; if it may be read, that is the label of its text with them
    pub kept : (l : List ℕ) → m.marks_of (m.small_but_marks l) ≡ m.marks_of l
    pub respelled : (l : List ℕ) → Readable m.codec l → m.small_but_marks l ≡ m.label_with (m.marks_of l) (m.codec.text_of l)
    -- and a label that so is that of a text with marks counts as the text's
    pub spelled : (t marks l : List ℕ) → m.small_but_marks l ≡ m.label_with marks t → m.codec.SameLabel t l
