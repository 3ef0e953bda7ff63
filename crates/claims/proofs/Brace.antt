-- BRACE is as the draft says.
use Rattle.std.proofs.Common.{Some}
use Prim.Native.Nat.{ℕ, ◌*◌, ◌%◌}
use mathlib.Core.Path.{◌≡◌, refl, sym, ap, ◌∙◌}
use mathlib.Core.Bool.{false}
use mathlib.Core.List.{List}
use lib.Dec.{eqb, ltb}
use lib.ListN.{length}
use borrow.Author.Tests.{lt-ltb, eqb-false}
use native.Mathlib.Omega.{arith}
use Rattle.basis.specs.Rows.{AllBelow}
use Rattle.basis.specs.Outcome.{Outcome, done, refused, refused_if, and_then}
use Rattle.basis.proofs.Tests.{cases, by-lt}
use Rattle.basis.proofs.Outcome.{passed}
use Rattle.utf16.specs.Bytes.{units_of_bytes, bytes_of_units, points_of, bytes_of}
use Rattle.utf16.specs.Answer.{is_odd}
use Rattle.utf16.proofs.BytePairs.{length-units_of_bytes, length-bytes_of_units, below-units_of_bytes}
use Rattle.brace_choice.specs.Choice.{codes_of, style_of}
use Rattle.brace_symbols.specs.Encoding.{label_of}
use Rattle.brace_text.specs.Decoding.{text_of}
use Rattle.brace.specs.Answer.{encode_outcome, decode_outcome}
use Rattle.brace.specs.Points as points
use Rattle.brace_facts.proofs.Procedure.{procedure-is}
use Rattle.brace_facts.proofs.Choice.{half-row-chosen, row-chosen, mixed-chosen, no-row-chosen}
use Rattle.brace_facts.proofs.Cost.{mixed-cost, no-row-cost}
use Rattle.brace_facts.proofs.Examples.{computed, computed-refusals}
use Rattle.brace_facts.proofs.Published.{published}
use Rattle.brace_facts.proofs.Points.{units-straight, label-straight, text-straight}
use Rattle.scheme.specs.Naming.{row_of, schemes, number_of, first_with, own_number_names, number_names, is_known, scheme_named}
use Rattle.scheme.specs.declared.Scheme.TheVariants.{Brace}
use Rattle.firmware.specs.Answer.{write_by, write_outcome, written_label, read_by, read_outcome, read_text}
use Rattle.claims.specs.Brace.{BraceAsDrafted}

-- 3 names BRACE
three-is-brace : number_names 3 ≡ Some Brace
unfolding number_names own_number_names first_with schemes number_of row_of
three-is-brace = refl

-- an even number of bytes that make no unit is 0
no-units : (bytes : List ℕ) → length (units_of_bytes bytes) ≡ 0 → is_odd (length bytes) ≡ false → length bytes ≡ 0
unfolding is_odd
no-units bytes e even = let odd : length bytes % 2 ≡ 1 → ⊥ = eqb-false (length bytes % 2) 1 even in by-lt (length bytes) 1 (λ h. omega arith) (λ h. absurd (odd (omega (arith, e, h, length-units_of_bytes bytes))))

-- writing under 3
module _ (capacity : ℕ) (bytes : List ℕ) (below : AllBelow 256 bytes) where
  interface-writes : write_outcome 3 capacity bytes
      ≡ refused_if (ltb capacity 63) 1 0 (refused_if (is_odd (length bytes)) 12 0 (refused_if (eqb (length bytes) 0) 2 0 (refused_if (ltb 252 (length bytes)) 3 0 (encode_outcome capacity (units_of_bytes bytes)))))
  unfolding write_outcome write_by is_known scheme_named points_of refused_if
  interface-writes =
      rw three-is-brace
      (by-lt capacity 63
      (λ h. rw (lt-ltb capacity 63 h))
      (λ room. cases (is_odd (length bytes))
      (λ e. rw e)
      (λ even. cases (eqb (length bytes) 0)
      (λ e. rw e)
      (λ some.
      let units : length (units_of_bytes bytes) ≡ 0 → ⊥ = λ e. eqb-false (length bytes) 0 some (no-units bytes e even) in
      rw (units-straight capacity (units_of_bytes bytes) (below-units_of_bytes bytes below) room units)))))

  interface-label : (count : ℕ) → write_outcome 3 capacity bytes ≡ done count → written_label 3 bytes ≡ label_of (units_of_bytes bytes)
  unfolding written_label scheme_named points_of
  interface-label count e =
      let room = passed _ _ _ _ count (sym interface-writes ∙ e) in
      let even = passed _ _ _ _ count room.1 in
      let some = passed _ _ _ _ count even.1 in
      let short = passed _ _ _ _ count some.1 in
      rw three-is-brace (label-straight capacity count (units_of_bytes bytes) (below-units_of_bytes bytes below) short.1)

interface-text : (count : ℕ) (label : List ℕ) → decode_outcome 63 label ≡ done count → read_text 3 label ≡ bytes_of_units (text_of label)
unfolding read_text scheme_named bytes_of
interface-text count label e = rw three-is-brace (ap bytes_of_units (text-straight 63 count label e))

interface-reads : (capacity : ℕ) (label : List ℕ)
    → read_outcome 3 capacity label ≡ refused_if (ltb capacity 252) 1 0 (and_then (λ position. position) (decode_outcome 63 label) (done (2 * length (text_of label))))
unfolding read_outcome read_by is_known scheme_named points.decode_outcome bytes_of and_then refused_if
interface-reads capacity label = rw three-is-brace (ap (λ (o : Outcome). refused_if (ltb capacity 252) 1 0 o) (by (decode_outcome 63 label) refl))
  where
    by : (o : Outcome) → decode_outcome 63 label ≡ o
        → and_then (λ position. position) (and_then (λ position. position) o (done (length (points.text_of label)))) (done (length (bytes_of (points.text_of label))))
        ≡ and_then (λ position. position) o (done (2 * length (text_of label)))
    by (done n) e = ap done (ap (λ (us : List ℕ). length (bytes_of_units us)) (text-straight 63 n label e) ∙ length-bytes_of_units (text_of label))
    by (refused number position) e = refl

pub brace-as-drafted : BraceAsDrafted
unfolding style_of
brace-as-drafted = record {
  procedure = procedure-is;
  half_row = λ text. half-row-chosen (codes_of text);
  row = λ text. row-chosen (codes_of text);
  mixed = λ text. mixed-chosen (codes_of text);
  no_row = λ text e i h. no-row-chosen (codes_of text) e i (omega (arith, h));
  mixed_counts = mixed-cost;
  no_row_counts = no-row-cost;
  known = computed;
  known_refusals = computed-refusals;
  published = published;
  interface_writes = interface-writes;
  interface_label = λ capacity count bytes below. interface-label capacity bytes below count;
  interface_reads = interface-reads;
  interface_text = interface-text;
}
