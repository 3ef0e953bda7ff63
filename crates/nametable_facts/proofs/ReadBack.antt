-- What is written reads back: the bytes of an entry hold it, and the table of entries that may be
-- written reads whole and holds them, all and no others.
use Prim.Native.Nat.{ℕ, suc, ◌+◌, ◌-◌, ◌*◌, ◌≤◌}
use mathlib.Core.Path.{◌≡◌, refl, ap, ap₂, ◌∙◌}
use mathlib.Core.Bool.{true, false, not}
use mathlib.Core.List.{List, [], ◌∷◌, ◌++◌}
use lib.Dec.{eqb}
use lib.ListN.{length, take, drop}
use lib.Seq.{take-append_seam, take_at, drop_at, drop-drop, get_or-drop, get_or-append-add}
use borrow.Author.Tests.{ltb-false, eqb-true, eq-eqb, not-false}
use native.Mathlib.Omega.{arith}
use Rattle.basis.specs.Tests.{within}
use Rattle.basis.specs.Rows.{at}
use Rattle.basis.specs.Outcome.{done, and_then}
use Rattle.basis.proofs.Tests.{within-true, within_low, within-high, each_at}
use Rattle.basis.proofs.Lists.{row-tabulate}
use Rattle.basis.proofs.Outcome.{pass-if, pass_below, both-done, passed}
use Rattle.basis.proofs.Codec.{decode-settled}
use Rattle.scheme.specs.Naming.{own_number_names, kind_names, is_known, scheme_named}
use Rattle.scheme.specs.Coding.{codec_of, decode_outcome, label_of, text_of}
use Rattle.scheme.proofs.Naming.{kind-names, number-back}
use Rattle.scheme.proofs.Coding.{faithful, label-own, label-some}
use Rattle.nametable_format.specs.Format.{most_entries, label_capacity, text_capacity, number_at, count_of, table_length, entry_at, kind_of, reader_of, length_of, label_in, is_filled, scheme_in}
use Rattle.nametable.specs.Answer.{form_tests, entry_judged, entries_judged, read_outcome, text_in}
use Rattle.nametable_write.specs.Writing.{Entry, entry, entries_of, list_tests, scheme_of, entry_written, reader_in, entries_written, write_outcome, number_bytes, zeros, filled, entry_bytes, entries_bytes, table_of}
use Rattle.nametable_write.specs.Internal.{Rows, Spelled}
use Rattle.nametable.proofs.TableLaws.{by_entries}
use Rattle.nametable_write.proofs.ListLaws.{listed-count}
use Rattle.nametable_write.proofs.StoreLaws.{label-writable, label-short, entry-long, all-spelled, written-total, table-long}
use Rattle.nametable_facts.specs.Entries.{entry_in, entries_from, entries_in}

-- zeros at each index
pub zero-at : (n i : ℕ) → at (zeros n) i ≡ 0
unfolding zeros
zero-at n i = row-tabulate n (λ _. 0) (λ k h. refl) i

-- an entry whose label may be written: what its bytes hold
module _ (reader scheme : ℕ) (text : List ℕ) (spelled : Spelled (entry reader scheme text)) where
  abbrev bytes : List ℕ
  bytes = entry_bytes (entry reader scheme text)

  abbrev label : List ℕ
  label = label_of (scheme_of scheme) text

  kind-known : not (is_known (kind_names (kind_of bytes))) ≡ false
  unfolding kind_of entry_bytes number_bytes is_known
  kind-known = rw (kind-names (scheme_of scheme))

  scheme-held : scheme_in bytes ≡ scheme_of scheme
  unfolding scheme_in kind_of entry_bytes number_bytes scheme_named
  scheme-held = rw (kind-names (scheme_of scheme))

  reader-before : (rest : List ℕ) → reader_of (bytes ++ rest) ≡ reader
  unfolding reader_of number_at entry_bytes number_bytes
  reader-before rest = omega arith

  reader-held : reader_of bytes ≡ reader
  unfolding reader_of number_at entry_bytes number_bytes
  reader-held = omega arith

  length-held : length_of bytes ≡ length label
  unfolding length_of entry_bytes number_bytes
  length-held = refl

  pub label-held : label_in bytes ≡ label
  unfolding label_in length_of entry_bytes number_bytes filled
  label-held = take-append_seam label (zeros (label_capacity - length label))

  filled_at : (i : ℕ) → at bytes (4 + length label + i) ≡ 0
  unfolding entry_bytes number_bytes filled
  filled_at i =
      let n : 4 + length label + i ≡ 4 + (length label + i) = omega arith in
      rw (n, ← get_or-drop 4 (entry_bytes (entry reader scheme text)) (length label + i) 0)
      (get_or-append-add label (zeros (63 - length label)) i 0 ∙ zero-at (63 - length label) i)

  filling-held : is_filled label_capacity bytes ≡ true
  unfolding is_filled
  filling-held = rw length-held (each_at (63 - length label) (λ i. eqb (at bytes (4 + length label + i)) 0) (λ i h. eq-eqb _ 0 (filled_at i)))

  same : (codec_of (scheme_of scheme)).SameLabel text label
  same = label-own (scheme_of scheme) text

  text-back : text_of (scheme_of scheme) label ≡ text
  text-back = (faithful (scheme_of scheme)).text-is text label (label-writable reader scheme text spelled) same

  decodes : decode_outcome (scheme_of scheme) text_capacity label ≡ done (length (text_of (scheme_of scheme) label))
  decodes =
      ((decode-settled (codec_of (scheme_of scheme)) (faithful (scheme_of scheme)) text_capacity label (omega arith)).succeeds (length (text_of (scheme_of scheme) label))).1
      ((faithful (scheme_of scheme)).readable text label (label-writable reader scheme text spelled) same, refl)

  text-held : text_in bytes ≡ text
  unfolding text_in
  text-held = rw (scheme-held, label-held) text-back

  entry-judged : (least : ℕ) → least ≤ reader → entry_judged 1 label_capacity least bytes ≡ done reader
  unfolding entry_judged form_tests and_then
  entry-judged least rising =
      let some : 1 ≤ length label = label-some (scheme_of scheme) text (label-writable reader scheme text spelled) in
      let fits : within 1 label_capacity (length_of bytes) ≡ true = rw length-held (within-true 1 label_capacity (length label) some (label-short reader scheme text spelled)) in
      pass-if 14 0 _ _ kind-known ∙ pass_below 14 0 _ (reader_of bytes) least (rw reader-held rising) ∙ pass-if 14 0 _ _ (ap not fits)
      ∙ pass-if 14 0 _ _ (ap not filling-held) ∙ rw (scheme-held, label-held, decodes, reader-held)

  entry-held : is_known (own_number_names scheme) ≡ true → entry_in bytes ≡ entry reader scheme text
  unfolding entry_in scheme_of
  entry-held known = rw (reader-held, scheme-held, text-held, number-back scheme known)

-- an entry that is judged good: its reader number is at least the least, its scheme is known, and its
-- label may be written
record Good (least reader scheme : ℕ) (text : List ℕ) : Type 0 where
  pub rising : least ≤ reader
  pub known : is_known (own_number_names scheme) ≡ true
  pub spelled : Spelled (entry reader scheme text)

judged-good : (least reader scheme : ℕ) (text : List ℕ) {n : ℕ} → entry_written least (entry reader scheme text) ≡ done n → Good least reader scheme text
unfolding entry_written
judged-good least reader scheme text {n} e =
    let rises = passed _ _ _ _ _ e in
    let knows = passed _ _ _ _ _ rises.1 in
    record { rising = ltb-false reader least rises.0; known = not-false _ knows.0; spelled = (n, knows.1) }

-- entries that may be written, as their bytes are judged, and as they are held
written-judged : (index least : ℕ) (es : List Entry) (total count : ℕ) {n : ℕ} → entries_written index least es total ≡ done n
    → entries_judged index least (length es) (entries_bytes es) count ≡ done count
unfolding entries_written entries_judged entries_bytes and_then reader_in
written-judged index least [] total count w = refl
written-judged index least (entry reader scheme text ∷ es) total count w =
    let b = both-done _ _ _ w in
    let g = judged-good least reader scheme text b.0.1 in
    let long = entry-long reader scheme text g.spelled in
    rw (
      take_at (entry_bytes (entry reader scheme text)) (entries_bytes es) 67 long,
      drop_at (entry_bytes (entry reader scheme text)) (entries_bytes es) 67 long,
      reader-before reader scheme text g.spelled (entries_bytes es),
      entry-judged reader scheme text g.spelled least g.rising,
    )
    (written-judged (suc index) (suc reader) es total count b.1)

written_held : (t : List ℕ) (index least : ℕ) (es : List Entry) (total : ℕ) {n : ℕ} → entries_written index least es total ≡ done n
    → drop (table_length index) t ≡ entries_bytes es → entries_from t index (length es) ≡ es
unfolding entries_written entries_bytes entries_from entry_at
written_held t index least [] total w is = refl
written_held t index least (entry reader scheme text ∷ es) total w is =
    let b = both-done _ _ _ w in
    let g = judged-good least reader scheme text b.0.1 in
    let long = entry-long reader scheme text g.spelled in
    let d : 3 + 67 * suc index ≡ 3 + 67 * index + 67 = omega arith in
    let here : take 67 (drop (3 + 67 * index) t) ≡ entry_bytes (entry reader scheme text) = rw is (take_at (entry_bytes (entry reader scheme text)) (entries_bytes es) 67 long) in
    let after : drop (3 + 67 * suc index) t ≡ entries_bytes es
    = rw (d, ← drop-drop 67 (3 + 67 * index) t, is) (drop_at (entry_bytes (entry reader scheme text)) (entries_bytes es) 67 long) in
    ap₂ ◌∷◌ (rw here (entry-held reader scheme text g.spelled g.known)) (written_held t (suc index) _ es total b.1 after)

-- so their table reads whole, and holds them
module _ (es : List Entry) (total : ℕ) {n : ℕ} (written : entries_written 0 0 es total ≡ done n) where
  count_held : length es ≡ count_of (table_of es)
  unfolding count_of number_at table_of number_bytes
  count_held = omega arith

  table-reads : 1 ≤ length es → length es ≤ most_entries → read_outcome (table_of es) ≡ done (length es)
  unfolding table_of number_bytes
  table-reads some few =
      let long = table-long es (all-spelled 0 0 es total written) in
      by_entries (table_of es) refl (omega (arith, long)) count_held some few long ∙ written-judged 0 0 es total (length es) written

  table-holds : entries_in (table_of es) ≡ es
  unfolding entries_in table_of number_bytes
  table-holds = rw (← count_held) (written_held (table_of es) 0 0 es total written refl)

-- what was written: it counts the bytes of the table, for which there is room, and the table reads
-- back
module _ (capacity : ℕ) (readers schemes lengths points : List ℕ) {n : ℕ} (answered : write_outcome capacity readers schemes lengths points ≡ done n) where
  abbrev listed : List Entry
  listed = entries_of readers schemes lengths points

  tests-passed : Rows readers schemes lengths points × (1 ≤ length readers) × (table_length (length readers) ≤ capacity) × (entries_written 0 0 listed (table_length (length readers)) ≡ done n)
  unfolding write_outcome list_tests
  tests-passed =
      let room = passed _ _ _ _ _ answered in
      let count = passed _ _ _ _ _ room.1 in
      let second = passed _ _ _ _ _ count.1 in
      let third = passed _ _ _ _ _ second.1 in
      let sum = passed _ _ _ _ _ third.1 in
      let few = within-high 1 most_entries (length readers) (not-false _ count.0) in (
        record { few = few; schemed = eqb-true _ _ (not-false _ second.0); measured = eqb-true _ _ (not-false _ third.0); summed = eqb-true _ _ (not-false _ sum.0) },
        within_low 1 most_entries (length readers) (not-false _ count.0),
        ltb-false capacity (table_length (length readers)) room.0,
        sum.1,
      )

  count-is : length listed ≡ length readers
  count-is = listed-count readers schemes lengths points tests-passed.0.schemed tests-passed.0.measured

  pub written-counts : (n ≡ length (table_of listed)) × (n ≤ capacity)
  written-counts =
      let total = written-total 0 0 listed (table_length (length readers)) tests-passed.3 in
      (omega (arith, total, table-long listed (all-spelled 0 0 listed _ tests-passed.3), count-is), omega (arith, total, tests-passed.2))

  pub written-reads : read_outcome (table_of listed) ≡ done (length readers)
  written-reads =
      table-reads listed _ tests-passed.3 (omega (arith, tests-passed.1, count-is)) (omega (arith, tests-passed.0.few, count-is)) ∙ ap done count-is

  pub written-holds : entries_in (table_of listed) ≡ listed
  written-holds = table-holds listed _ tests-passed.3
