-- A table that reads whole, in the other form: it reads there with the same entries, and moved back
-- it is the same.
use Prim.Native.Nat.{ℕ, zero, suc, ◌+◌, ◌*◌, ◌≤◌, ◌<◌}
use mathlib.Core.Path.{◌≡◌, refl, sym, ap, ◌∙◌}
use mathlib.Core.List.{List, ◌∷◌, ◌++◌}
use lib.Dec.{ltb, leb}
use lib.ListN.{length, take, drop, length-append, length-drop, take-append-drop, drop_of_length-le}
use lib.Seq.{take_at, drop_at, drop-drop, length-take-le}
use borrow.Author.Tests.{ltb-false, leb-false}
use native.Mathlib.Omega.{arith}
use Rattle.basis.specs.Rows.{at, tabulate}
use Rattle.basis.specs.Outcome.{Outcome, done, refused_if, and_then}
use Rattle.basis.proofs.Outcome.{stop-if, done-count, both-done, passed}
use Rattle.basis.proofs.Tests.{cases}
use Rattle.scheme.specs.Naming as naming
use Rattle.nametable_format.specs.Format.{header_length, entry_length, text_capacity, number_at, count_of, table_length, entry_at, kind_of, reader_of, label_in, scheme_in}
use Rattle.nametable.specs.Answer.{entries_judged, read_outcome, text_in, found_outcome, find_outcome}
use Rattle.nametable.proofs.TableLaws.{header-passed, by_entries, reader-part, Table, read_table}
use Rattle.nametable_facts.proofs.Rewritten.{entries-read, entry_whole}
use Rattle.nametable_short_format.specs.Format.{short_header_kind, scheme_start, short_length, first_entry, after_first, from_entry, short_entry_at, long_of, short_of}
use Rattle.nametable_short.specs.Answer.{short_entry_judged, short_entries_judged, short_read_outcome, short_find_outcome, header_as, short_entries, long_entries, to_short, to_long, move_outcome}
use Rattle.nametable_short_format.proofs.EntryLaws.{room_small, long-reader, long-size, first-size}
use Rattle.nametable_short.proofs.MoveLaws.{long-entries-size}
use Rattle.nametable_short_read.proofs.TableLaws.{ShortTable, short-read-table, short-entries-read}
use Rattle.nametable_short_facts.specs.Causes.{short_label_in}
use Rattle.nametable_short_facts.proofs.FirstEntry.{first-appended, after-appended, first_then, entry-taken, entry-put}
use Rattle.nametable_short_facts.proofs.Forms.{heads, number-again, own-label-bytes, short-long, short-reader, long-again, short-whole, short-again, long-good}

-- long entries that are judged good: in the short form they are, and back they are the same
entries-short : (index least left : ℕ) (bytes : List ℕ) (total : ℕ) {n : ℕ} → length bytes ≡ entry_length * left → entries_judged index least left bytes total ≡ done n
    → (short_entries_judged index least left (short_entries left bytes) total ≡ done n) × (long_entries left (short_entries left bytes) ≡ bytes)
unfolding entries_judged short_entries long_entries short_entries_judged refused_if
entries-short index least zero bytes total long e = (e, sym (drop_of_length-le bytes {i = 0} (omega arith)))
entries-short index least (suc left) bytes total long e =
    let b = both-done _ _ _ e in
    let f = take entry_length bytes in
    let rest = short_entries left (drop entry_length bytes) in
    let whole : length f ≡ entry_length = length-take-le entry_length bytes (omega arith) in
    let later = entries-short (suc index) (suc (reader_of bytes)) left (drop entry_length bytes) total (length-drop entry_length bytes ∙ omega arith) b.1 in (
      entry-put index least left total (short_of f) rest (short-whole least f whole b.0.1) ∙ rw (short-reader f, reader-part bytes) later.0,
      rw (first-appended (short_of f) rest (short-long f), after-appended (short_of f) rest (short-long f), long-again least f whole b.0.1, later.1) (take-append-drop entry_length bytes),
    )

-- the short entry at an index is that of the long one
shorts-at : (left : ℕ) (bytes : List ℕ) (k : ℕ) → k < left → first_entry (from_entry k (short_entries left bytes)) ≡ short_of (take entry_length (drop (entry_length * k) bytes))
unfolding short_entries from_entry
shorts-at zero bytes k h = absurd (omega arith)
shorts-at (suc left) bytes zero h = first-appended (short_of (take entry_length bytes)) _ (short-long (take entry_length bytes))
shorts-at (suc left) bytes (suc k) h =
    let d : 67 * suc k ≡ 67 + 67 * k = omega arith in
    rw (after-appended (short_of (take entry_length bytes)) (short_entries left (drop entry_length bytes)) (short-long (take entry_length bytes)), d, ← drop-drop (67 * k) 67 bytes)
    (shorts-at left (drop entry_length bytes) k (omega arith))

-- short entries that are judged good: in the long form they are, and back they are the same
entries-long : (index least left : ℕ) (bytes : List ℕ) (total : ℕ) {n : ℕ} → short_entries_judged index least left bytes total ≡ done n
    → (entries_judged index least left (long_entries left bytes) total ≡ done n) × (short_entries left (long_entries left bytes) ≡ bytes)
unfolding entries_judged short_entries long_entries short_entries_judged and_then
entries-long index least zero bytes total e =
    let none = passed _ _ _ _ _ e in
    (none.1, sym (drop_of_length-le bytes {i = 0} (ltb-false 0 (length bytes) none.0)))
entries-long index least (suc left) bytes total e =
    let b = entry-taken index least left total bytes e in
    let f = first_entry bytes in
    let rest = long_entries left (after_first bytes) in
    let later = entries-long (suc index) (suc (reader_of f)) left (after_first bytes) total b.1 in (
      rw (← reader-part (long_of f ++ rest), take_at (long_of f) rest entry_length (long-size f), drop_at (long_of f) rest entry_length (long-size f), long-good least f b.0.long b.0.judged.1, long-reader f) later.0,
      rw (take_at (long_of f) rest entry_length (long-size f), drop_at (long_of f) rest entry_length (long-size f), short-again least f b.0.long b.0.judged.1, later.1) (first_then bytes),
    )

-- the long entry at an index is that of the short one
longs-at : (left : ℕ) (bytes : List ℕ) (k : ℕ) → k < left → take entry_length (drop (entry_length * k) (long_entries left bytes)) ≡ long_of (first_entry (from_entry k bytes))
unfolding long_entries from_entry
longs-at zero bytes k h = absurd (omega arith)
longs-at (suc left) bytes zero h = take_at (long_of (first_entry bytes)) _ entry_length (long-size (first_entry bytes))
longs-at (suc left) bytes (suc k) h =
    let d : 67 * suc k ≡ 67 + 67 * k = omega arith in
    rw (d, ← drop-drop (67 * k) 67 (long_of (first_entry bytes) ++ long_entries left (after_first bytes)), drop_at (long_of (first_entry bytes)) (long_entries left (after_first bytes)) entry_length (long-size (first_entry bytes)))
    (longs-at left (after_first bytes) k (omega arith))

-- one entry of a table is found in the same way in another that has as many, and the same points at
-- each of their indices
found-same : (verdict : Outcome) (count index capacity points others : ℕ) → (index < count → points ≡ others)
    → found_outcome verdict count index capacity points ≡ found_outcome verdict count index capacity others
unfolding found_outcome
found-same verdict count index capacity points others same =
    ap (λ (o : Outcome). refused_if (ltb capacity text_capacity) 1 0 (and_then (λ p. p) verdict o))
    (cases (leb count index) (λ e. stop-if 14 0 _ _ e ∙ sym (stop-if 14 0 _ _ e)) (λ e. rw (same (leb-false _ _ e))))

-- the header announces as many entries in the other form
short-count : (t : List ℕ) → count_of (to_short t) ≡ count_of t
unfolding count_of number_at to_short header_as
short-count t = refl

long-count : (t : List ℕ) → count_of (to_long t) ≡ count_of t
unfolding count_of number_at to_long header_as
long-count t = refl

-- a long table that reads whole
module _ (t : List ℕ) (n : ℕ) (read : read_outcome t ≡ done n) where
  table : Table t n
  table = read_table t n read

  shorts : (short_entries_judged 0 0 n (short_entries n (drop header_length t)) n ≡ done n) × (long_entries n (short_entries n (drop header_length t)) ≡ drop header_length t)
  shorts = entries-short 0 0 n (drop header_length t) n (length-drop header_length t ∙ omega (arith, table.long)) (entries-read t n read)

  pub short-reads : short_read_outcome (to_short t) ≡ done n
  unfolding short_read_outcome to_short header_as count_of number_at
  short-reads =
      header-passed short_header_kind (to_short t) _ refl (omega arith) table.counted (omega (arith, table.some, table.counted)) (omega (arith, table.few, table.counted))
      ∙ rw (← table.counted) shorts.0

  pub long-back : to_long (to_short t) ≡ t
  unfolding to_long to_short header_as count_of number_at tabulate
  long-back = rw (← table.counted, shorts.1) (ap (λ (k : ℕ). k ∷ at t 1 ∷ at t 2 ∷ drop header_length t) (sym table.kind) ∙ heads 3 t (omega (arith, table.long)))

  pub short-entry : (index : ℕ) → index < n → long_of (short_entry_at (to_short t) index) ≡ entry_at t index
  unfolding short_entry_at to_short header_as count_of number_at entry_at
  short-entry index h =
      rw (← table.counted, shorts-at n (drop header_length t) index h, drop-drop (67 * index) 3 t) (long-again 0 (entry_at t index) (entry_whole t n read index h) (table.good index h).1)

  pub short-finds : (index capacity : ℕ) → short_find_outcome (to_short t) index capacity ≡ find_outcome t index capacity
  unfolding short_find_outcome find_outcome
  short-finds index capacity =
      rw (short-reads, read, short-count t, ← table.counted)
      (found-same (done n) n index capacity _ _ (λ h. ap (λ (e : List ℕ). length (text_in e)) (short-entry index h)))

-- the most bytes of short entries that are judged good
most-short : (index least left : ℕ) (bytes : List ℕ) (total : ℕ) {n : ℕ} → short_entries_judged index least left bytes total ≡ done n → length bytes ≤ 68 * left
unfolding short_entries_judged short_length
most-short index least zero bytes total e = ltb-false 0 (length bytes) (passed _ _ _ _ _ e).0
most-short index least (suc left) bytes total e =
    let b = entry-taken index least left total bytes e in
    let later = most-short (suc index) (suc (reader_of (first_entry bytes))) left (after_first bytes) total b.1 in
    omega (arith, ap length (first_then bytes), length-append (first_entry bytes) (after_first bytes), b.0.long, room_small (kind_of (first_entry bytes)))

-- a short table that reads whole
module _ (t : List ℕ) (n : ℕ) (read : short_read_outcome t ≡ done n) where
  short-table : ShortTable t n
  short-table = short-read-table t n read

  longs : (entries_judged 0 0 n (long_entries n (drop header_length t)) n ≡ done n) × (short_entries n (long_entries n (drop header_length t)) ≡ drop header_length t)
  longs = entries-long 0 0 n (drop header_length t) n (short-entries-read t n read)

  pub long-table-size : length (to_long t) ≡ table_length n
  unfolding to_long header_as
  long-table-size = omega (arith, long-entries-size (count_of t) (drop header_length t), short-table.counted)

  pub long-reads : read_outcome (to_long t) ≡ done n
  unfolding to_long header_as
  long-reads =
      by_entries (to_long t) refl (omega arith) (short-table.counted ∙ sym (long-count t)) (omega (arith, short-table.header.some, short-table.counted)) (omega (arith, short-table.header.few, short-table.counted)) long-table-size
      ∙ rw (← short-table.counted) longs.0

  pub short_back : to_short (to_long t) ≡ t
  unfolding to_long to_short header_as count_of number_at tabulate
  short_back =
      rw (← short-table.counted, longs.1) (ap (λ (k : ℕ). k ∷ at t 1 ∷ at t 2 ∷ drop header_length t) (sym short-table.header.is) ∙ heads 3 t short-table.header.long)

  pub long-entry : (index : ℕ) → index < n → entry_at (to_long t) index ≡ long_of (short_entry_at t index)
  unfolding short_entry_at to_long header_as entry_at
  long-entry index h = rw (← drop-drop (67 * index) 3 (to_long t), ← short-table.counted) (longs-at n (drop header_length t) index h)

  pub long-finds : (index capacity : ℕ) → find_outcome (to_long t) index capacity ≡ short_find_outcome t index capacity
  unfolding short_find_outcome find_outcome
  long-finds index capacity =
      rw (long-reads, read, long-count t, ← short-table.counted)
      (found-same (done n) n index capacity _ _ (λ h. ap (λ (e : List ℕ). length (text_in e)) (long-entry index h)))

  -- what the short entry at an index says of itself: its scheme and its label
  module _ (index : ℕ) (inside : index < n) where
    abbrev entry : List ℕ
    entry = short_entry_at t index

    entry-sized : length entry ≡ short_length (kind_of entry)
    unfolding short_entry_at
    entry-sized = first-size (from_entry index (drop header_length t)) (short-table.good index inside).whole

    entry-good : (m : ℕ) × (short_entry_judged 0 entry ≡ done m)
    unfolding short_entry_at
    entry-good = (short-table.good index inside).judged

    pub own-scheme : at entry scheme_start ≡ naming.number_of (scheme_in (long_of entry))
    own-scheme = sym (number-again 0 entry entry-sized entry-good.1)

    pub own-label : short_label_in entry ≡ label_in (long_of entry)
    own-label = sym (own-label-bytes 0 entry entry-sized entry-good.1)

  pub short-longest : length t ≤ 34003
  short-longest = omega (arith, most-short 0 0 n (drop header_length t) n (short-entries-read t n read), length-drop header_length t, short-table.header.few, short-table.counted)

-- a move that is done: the table reads whole, and there is room for the bytes that are needed
pub move-done : (verdict : Outcome) (needed capacity : ℕ) {bytes : ℕ} → move_outcome verdict needed capacity ≡ done bytes
    → ((n : ℕ) × (verdict ≡ done n)) × (bytes ≡ needed) × (needed ≤ capacity)
unfolding move_outcome
move-done verdict needed capacity e =
    let b = both-done _ _ _ e in
    let fits = passed _ _ _ _ _ b.1 in
    (b.0, done-count fits.1 refl, ltb-false capacity needed fits.0)
