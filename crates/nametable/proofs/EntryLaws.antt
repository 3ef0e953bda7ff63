-- Laws on one entry: the tests of its form, its parts as they are read, and what reading it by
-- itself answers.
use Prim.Native.Nat.{ℕ, ◌+◌, ◌-◌, ◌≤◌, ◌<◌}
use mathlib.Core.Path.{◌≡◌, refl, sym, ap, ◌∙◌}
use mathlib.Core.Bool.{Bool, true, false, not}
use mathlib.Core.List.{List}
use lib.Dec.{eqb, ltb}
use lib.ListN.{length, take, drop, length-drop}
use lib.Seq.{take_all, get_or-drop}
use native.Mathlib.Omega.{arith}
use Rattle.basis.specs.Tests.{every_in, within}
use Rattle.basis.specs.Rows.{at}
use Rattle.std.proofs.Common.{Option, Some, None, Result, Ok, Err}
use Rattle.basis.specs.Outcome.{Outcome, done, refused, refused_if, and_then, number_of, outcome_by, buffer_after}
use Rattle.basis.specs.declared.Refusal.{Refusal}
use Rattle.basis.proofs.Tests.{within-true, within-below, within-above, every-same}
use Rattle.basis.proofs.Outcome.{stop-if, pass-if, stop-below, pass_below}
use Rattle.basis.proofs.Causes.{settled-once}
use Rattle.basis.proofs.Codec.{decode-settled}
use Rattle.utf16.specs.Answer.{points_outcome}
use Rattle.utf16.specs.declared.PointCount.{PointCount}
use Rattle.scheme.specs.Naming.{kind_names, is_known, scheme_named}
use Rattle.scheme.specs.Coding.{codec_of, decode_outcome, text_of}
use Rattle.scheme.specs.declared.Scheme.{Scheme}
use Rattle.scheme.proofs.Coding.{faithful, decoded-count}
use Rattle.nametable_format.specs.Format.{entry_length, label_capacity, text_capacity, label_start, length_start, number_at, reader_start, kind_of, reader_of, length_of, label_in, is_filled, scheme_in}
use Rattle.nametable.specs.Answer.{form_tests, entry_judged, text_in, entry_read, entry_outcome, entry_from}
use Rattle.nametable.specs.Internal.{Tested}
use Rattle.nametable.specs.declared.entries.Form.{Form}
use Rattle.nametable.specs.declared.ReadEntry.{ReadEntry}

-- the scheme that the kind names
scheme-is : (e : List ℕ) {named : Option Scheme} {s : Scheme} → named ≡ kind_names (at e 0) → named ≡ Some s → scheme_in e ≡ s
unfolding scheme_in scheme_named kind_of
scheme-is e kind is = rw (← kind, is)

-- the bytes after the label, as the part of the entry that is tested
filled-part : (e : List ℕ) (zeros : Bool) → length e ≡ entry_length → at e length_start ≤ label_capacity
    → zeros ≡ every_in (λ b. eqb b 0) (take (length e - (label_start + at e length_start)) (drop (label_start + at e length_start) e)) → is_filled label_capacity e ≡ zeros
unfolding is_filled length_of
filled-part e zeros long short z =
    let part : take (length e - (4 + at e 3)) (drop (4 + at e 3) e) ≡ drop (4 + at e 3) e
    = take_all (length e - (4 + at e 3)) (drop (4 + at e 3) e) (simp length-drop (omega arith)) in
    let size : length (drop (4 + at e 3) e) ≡ 63 - at e 3 = length-drop (4 + at e 3) e ∙ omega arith in
    rw (z, part, size) (every-same (63 - at e 3) (λ i. eqb (at e (4 + at e 3 + i)) 0) (λ i. eqb (at (drop (4 + at e 3) e) i) 0) (λ i h. rw (get_or-drop (4 + at e 3) e i 0)))

-- the tests of the form in their turn, by what the code tested
module _ (least : ℕ) (e : List ℕ) {named : Option Scheme} (kind : named ≡ kind_names (at e 0)) where
  pub unknown-kind : named ≡ None → Tested least e None
  unfolding form_tests kind_of is_known
  unknown-kind is next = stop-if 14 0 _ _ (rw (← kind, is))

  module _ {s : Scheme} (is : named ≡ Some s) {reader : ℕ} (number : reader ≡ number_at e reader_start) where
    abbrev by_filling : Outcome → Outcome
    by_filling next = refused_if (not (is_filled label_capacity e)) 14 0 next

    by_number : (next : Outcome) → form_tests 1 label_capacity least e next ≡ refused_if (ltb reader least) 14 0 (refused_if (not (within 1 label_capacity (at e length_start))) 14 0 (by_filling next))
    unfolding form_tests kind_of reader_of length_of is_known
    by_number next = rw number (pass-if 14 0 _ _ (rw (← kind, is)))

    pub number-below : reader < least → Tested least e None
    number-below h next = by_number next ∙ stop-below 14 0 _ _ _ h

    module _ (rising : least ≤ reader) where
      pub no_label : at e length_start < 1 → Tested least e None
      no_label h next = by_number next ∙ pass_below 14 0 _ _ _ rising ∙ stop-if 14 0 _ _ (ap not (within-below 1 label_capacity _ h))

      pub long-label : label_capacity < at e length_start → Tested least e None
      long-label h next = by_number next ∙ pass_below 14 0 _ _ _ rising ∙ stop-if 14 0 _ _ (ap not (within-above 1 label_capacity _ h))

      module _ (some : 1 ≤ at e length_start) (short : at e length_start ≤ label_capacity) (long : length e ≡ entry_length) {zeros : Bool}
          (tested : zeros ≡ every_in (λ b. eqb b 0) (take (length e - (label_start + at e length_start)) (drop (label_start + at e length_start) e))) where
        by-filling : (next : Outcome) → form_tests 1 label_capacity least e next ≡ refused_if (not zeros) 14 0 next
        by-filling next =
            by_number next ∙ pass_below 14 0 _ _ _ rising ∙ pass-if 14 0 _ _ (ap not (within-true 1 label_capacity _ some short))
            ∙ ap (λ (b : Bool). refused_if (not b) 14 0 next) (filled-part e zeros long short tested)

        pub not-filled : not zeros ≡ true → Tested least e None
        not-filled h next = by-filling next ∙ stop-if 14 0 _ _ h

        pub lawful-form : not zeros ≡ false → Tested least e (Some (record { scheme = s; reader = reader; end = label_start + at e length_start }))
        unfolding reader_of length_of
        lawful-form h = (λ next. by-filling next ∙ pass-if 14 0 _ _ h, scheme-is e kind is, sym number, refl, short)

-- the label, as the part of the entry that is read
label-part : (e : List ℕ) (end : ℕ) → end ≡ label_start + length_of e → take (end - label_start) (drop label_start e) ≡ label_in e
unfolding label_in
label-part e end is = let n : end - 4 ≡ length_of e = omega arith in rw n

-- a label decodes alike at any capacity of 63 or more
decode-room : (s : Scheme) (l : List ℕ) (capacity : ℕ) → text_capacity ≤ capacity → decode_outcome s text_capacity l ≡ decode_outcome s capacity l
decode-room s l capacity room =
    settled-once _ _ (decode-settled (codec_of s) (faithful s) text_capacity l (omega arith)) (decode-settled (codec_of s) (faithful s) capacity l room)

-- an answer that refuses: it is the refusal, and the buffer is as before
pub refusal-answers : (e : List ℕ) (outcome : Outcome) (values buffer now : List ℕ) {refusal : Refusal} {r : Result ReadEntry Refusal}
    → now ≡ buffer → r ≡ Err refusal → outcome ≡ refused (number_of refusal.code) refusal.position
    → (entry_outcome r ≡ entry_from e outcome) × (now ≡ buffer_after outcome values buffer)
unfolding entry_outcome entry_from buffer_after
refusal-answers e outcome values buffer now left a is = (rw (a, is), left ∙ rw is)

-- an entry that is read by itself
module _ (least position : ℕ) (e : List ℕ) where
  pub form-refused : Tested least e None → entry_read least position e ≡ refused 14 position
  unfolding entry_read entry_judged and_then
  form-refused form = rw (form _)

  -- its form is lawful, and its label was decoded
  module _ (form : Form) (tested : Tested least e (Some form)) (text now : List ℕ) (room : text_capacity ≤ length text)
      (decoded : Result PointCount Refusal) (answers : points_outcome decoded ≡ decode_outcome form.scheme (length text) (take (form.end - label_start) (drop label_start e)))
      (left : now ≡ buffer_after (decode_outcome form.scheme (length text) (take (form.end - label_start) (drop label_start e))) (text_of form.scheme (take (form.end - label_start) (drop label_start e))) text) where
    outcome-is : points_outcome decoded ≡ decode_outcome (scheme_in e) (length text) (label_in e)
    outcome-is = answers ∙ rw (tested.1, label-part e form.end tested.3)

    read_is : entry_read least position e ≡ and_then (λ _. position) (and_then (λ _. 0) (points_outcome decoded) (done form.reader)) (done (length (text_in e)))
    unfolding entry_read entry_judged
    read_is = rw (tested.0 _, decode-room (scheme_in e) (label_in e) (length text) room, ← outcome-is, tested.2)

    left_is : now ≡ buffer_after (points_outcome decoded) (text_in e) text
    unfolding text_in
    left_is = left ∙ rw (answers, tested.1, label-part e form.end tested.3)

    pub label-refused : {refusal moved : Refusal} → decoded ≡ Err refusal → moved ≡ record { code = refusal.code; position = position }
        → (entry_outcome (Err moved) ≡ entry_from e (entry_read least position e)) × (now ≡ buffer_after (entry_read least position e) (text_in e) text)
    unfolding outcome_by and_then buffer_after
    label-refused is a = refusal-answers e _ _ _ _ (left_is ∙ rw is) (ap Err a) (read_is ∙ rw is)

    pub entry-answers : {count : PointCount} → decoded ≡ Ok count
        → (entry_outcome (Ok (record { reader = form.reader; scheme = form.scheme; count = count })) ≡ entry_from e (entry_read least position e)) × (now ≡ buffer_after (entry_read least position e) (text_in e) text)
    unfolding outcome_by and_then buffer_after entry_outcome entry_from text_in
    entry-answers {count} is =
        let n : count.0 ≡ length (text_in e) = decoded-count (scheme_in e) (length text) count.0 (label_in e) (sym outcome-is ∙ rw is) in
        (rw (read_is, is, n, tested.1, tested.2), left_is ∙ rw (read_is, is, n))
