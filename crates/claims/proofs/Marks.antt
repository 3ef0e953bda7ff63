-- What is claimed of marks holds: it follows once from the facts about a codec with marks, which AltDUDE and LACE have.
use Prim.Native.Nat.{ℕ, ◌≤◌, ◌<◌}
use mathlib.Core.Path.{◌≡◌, refl, sym, ap, ap₂, ◌∙◌}
use mathlib.Core.Logic.Iff
use mathlib.Core.Logic.{◌↔◌}
use mathlib.Core.List.{List, [], ◌∷◌, map}
use lib.Bits.{bit_xor}
use lib.Dec.{eqb}
use lib.ListN.{length, drop}
use native.Mathlib.Omega.{arith}
use Rattle.basis.specs.Causes.{whole, Settles}
use Rattle.basis.specs.Codec.{Readable}
use Rattle.basis.proofs.Tests.{cases}
use Rattle.basis.proofs.Causes.{settle-without}
use Rattle.basis.proofs.Codec.{Faithful}
use Rattle.basis.proofs.Codec as codecs
use Rattle.ascii.specs.Case.{SameButCase}
use Rattle.labels.specs.MarkedCodec.{MarkedCodec, WritableWith}
use Rattle.labels.proofs.MarkTests.{settle-room, room-pass, bad-mark}
use Rattle.labels.proofs.MarkFacts.{MarkFacts}
use Rattle.altdude.specs.Symbols.{byte_of}
use Rattle.altdude.specs.Encoding.{item_of, remembered_after, symbols_from, label_of}
use Rattle.altdude.specs.Marks.{marked}
use Rattle.altdude_facts.specs.Marked as altdude
use Rattle.altdude_facts.proofs.Bytes.{hyphen-byte}
use Rattle.altdude_facts.proofs.Faithful.{altdude-faithful}
use Rattle.altdude_facts.proofs.Marks.{marked-hyphen, marked-group}
use Rattle.altdude_facts.proofs.Marked.{altdude-marks}
use Rattle.lace_facts.specs.Marked as lace
use Rattle.lace_facts.proofs.Faithful.{lace-faithful}
use Rattle.lace_facts.proofs.Marked.{lace-marks}
use Rattle.claims.specs.Marks.{ReadsWith, MarksOf, last_character, drafted_item, drafted_from, Marks}
use Rattle.claims.proofs.CodecDemands.{settled-leaves}

module _ (m : MarkedCodec) (f : Faithful m.codec) (g : MarkFacts m) (label : (t l : List ℕ) → m.codec.SameLabel t l ↔ SameButCase (m.codec.label_of t) l) where
  -- marks change nothing but case, so not the length
  case-alone : (t marks : List ℕ) → SameButCase (m.codec.label_of t) (m.label_with marks t)
  case-alone t marks = (label t _).0 (g.same-label t marks)

  -- decoding without marks is decoding with them dropped
  dropped : (text_capacity marks_capacity : ℕ) (l : List ℕ) → 63 ≤ marks_capacity → m.decode_outcome text_capacity marks_capacity l ≡ m.codec.decode_outcome text_capacity l
  dropped text_capacity marks_capacity l space = g.decoding text_capacity marks_capacity l ∙ room-pass marks_capacity _ space

  -- given room, the causes other than 1 settle the answers
  encode-settled : (capacity : ℕ) (t marks : List ℕ) → 63 ≤ capacity → Settles (m.text_causes t marks) (length (m.label_with marks t)) (m.encode_outcome capacity t marks)
  encode-settled capacity t marks room =
      rw (← (case-alone t marks).equally_long) (settle-without (whole 1 (capacity < 63)) (λ p h. omega (arith, room, h.1)) (g.encoding capacity t marks))

  decode-settled : (text_capacity marks_capacity : ℕ) (l : List ℕ) → 63 ≤ text_capacity → 63 ≤ marks_capacity
      → Settles (m.codec.label_causes l) (length (m.codec.text_of l)) (m.decode_outcome text_capacity marks_capacity l)
  decode-settled text_capacity marks_capacity l room space = rw (dropped text_capacity marks_capacity l space) (codecs.decode-settled m.codec f text_capacity l room)

  -- decoding leaves a text and marks exactly when the label may be read and these are its text and its marks
  reads-iff : (text marks l t shown : List ℕ) → 63 ≤ length text → 63 ≤ length marks
      → ReadsWith m text marks l t shown ↔ (Readable m.codec l × (t ≡ m.codec.text_of l) × (shown ≡ m.marks_of l))
  reads-iff text marks l t shown room space =
      let s = decode-settled (length text) (length marks) l room space in
      let there = settled-leaves (m.codec.text_of l) text t s in
      let beside = settled-leaves (m.marks_of l) marks shown (rw (← g.as_many l) at s) in (
        λ (r, q). ((there.0 r).0, (there.0 r).1, (beside.0 q).1),
        λ (n, e, d). (there.1 (n, e), beside.1 (n, d)),
      )

  -- and exactly when the text may be written with the marks, and the label is theirs, made small but where it shows marks
  reading : (text marks l t shown : List ℕ) → 63 ≤ length text → 63 ≤ length marks
      → ReadsWith m text marks l t shown ↔ (WritableWith m t shown × (m.small_but_marks l ≡ m.label_with shown t))
  reading text marks l t shown room space =
      let i = reads-iff text marks l t shown room space in (
        λ r. let (n, e, d) = i.0 r in rw (e, d) ((g.writable _ _).1 (f.writable l n, g.lawful l n), g.respelled l n),
        λ (w, e).
            let v = ((g.writable t shown).0 w).0 in
            let same = g.spelled t shown l e in
            i.1 (f.readable t l v same, sym (f.text-is t l v same), sym (sym (g.kept l) ∙ ap m.marks_of e ∙ g.shown t shown w)),
      )

  -- a label has one text and one row of marks, so texts with marks that have the same label are equal
  same-label : (t marks u others : List ℕ) → WritableWith m t marks → WritableWith m u others
      → (m.label_with marks t ≡ m.label_with others u) ↔ ((t ≡ u) × (marks ≡ others))
  same-label t marks u others w x = (
    λ e. (
      sym (text-back t marks w) ∙ ap m.codec.text_of e ∙ text-back u others x,
      sym (g.shown t marks w) ∙ ap m.marks_of e ∙ g.shown u others x,
    ),
    λ (e, d). ap₂ m.label_with d e,
  )
    where
      text-back : (t marks : List ℕ) → WritableWith m t marks → m.codec.text_of (m.label_with marks t) ≡ t
      text-back t marks w = f.text-is t (m.label_with marks t) ((g.writable t marks).0 w).0 (g.same-label t marks)

  marks-of : MarksOf m
  marks-of = record {
    encoding = g.encoding;
    decoding = λ text_capacity marks_capacity l. rw (g.decoding text_capacity marks_capacity l) (settle-room marks_capacity (f.decoding text_capacity l));
    writable = λ t marks.
        let i = g.writable t marks in
        (λ w. ((i.0 w).0, (i.0 w).1.count, (i.0 w).1.may), λ (w, count, may). i.1 (w, record { count = count; may = may }));
    writing = λ buffer t marks l room. settled-leaves (m.label_with marks t) buffer l (encode-settled (length buffer) t marks (omega (arith, room)));
    reading = reading;
    zero_answer = g.zero-answer;
    zero_label = g.zero-label;
    dropped = dropped;
    case_alone = case-alone;
    same_label = same-label;
    alike = λ text marks l t shown text' marks' l' t' shown' room space room' space' r r'.
        let (w, e) = (reading text marks l t shown room space).0 r in
        let (w', e') = (reading text' marks' l' t' shown' room' space').0 r' in
        let i = same-label t shown t' shown' w w' in
        (λ q. e ∙ i.1 q ∙ sym e', λ q. i.0 (sym e ∙ q ∙ e'));
  }

-- the label of a text with marks, item by item, is that of the draft
drafted : (remembered : ℕ) (marks t : List ℕ) → marked marks (map byte_of (symbols_from remembered t)) ≡ drafted_from remembered marks t
unfolding marked symbols_from item_of remembered_after drafted_from drafted_item last_character
drafted remembered marks [] = refl
drafted remembered marks (p ∷ t) =
    cases (eqb p 45)
    (λ e. rw (e, hyphen-byte) (marked-hyphen marks (map byte_of (symbols_from remembered t)) ∙ ap (λ (l : List ℕ). 45 ∷ l) (drafted remembered (drop 1 marks) t)))
    (λ e. rw e (marked-group marks (bit_xor p remembered) (symbols_from p t) ∙ rw (drafted p (drop 1 marks) t)))

pub the-marks : Marks
unfolding label_of
the-marks = record {
  of_altdude = marks-of altdude.marked_codec altdude-faithful altdude-marks (λ t l. Iff.rfl);
  of_lace = marks-of lace.marked_codec lace-faithful lace-marks (λ t l. Iff.rfl);
  bad_mark = bad-mark;
  as_drafted = λ t marks. drafted 96 marks t;
}
