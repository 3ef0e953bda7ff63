-- Writing what was read: the entries of a table that reads whole may be written, and give its bytes
-- exactly if every label is the one that writing gives.
use Prim.Native.Nat.{ℕ, zero, suc, ◌+◌, ◌-◌, ◌*◌, ◌/◌, ◌%◌, ◌≤◌, ◌<◌}
use mathlib.Core.Path.{◌≡◌, refl, sym, ap, ap₂, ◌∙◌}
use mathlib.Core.Bool.{true, not}
use mathlib.Core.Logic.{◌↔◌}
use mathlib.Core.List.{List, [], ◌∷◌, ◌++◌}
use lib.Dec.{eqb}
use lib.ListN.{length, take, drop, length-append, length-drop, take-append-drop, drop_of_length-le}
use lib.Seq.{take-append_seam, drop-append_seam, take_at, drop_at, drop-cons, drop-drop, get_or-take, get_or-drop, ext_get_or, length-take-le}
use borrow.Author.Tests.{ltb-false, eqb-true, eq-eqb, not-false}
use native.Mathlib.Omega.{arith}
use Rattle.basis.specs.Rows.{at, AllBelow}
use Rattle.basis.specs.Outcome.{done, and_then}
use Rattle.basis.specs.Codec.{Writable}
use Rattle.basis.proofs.Tests.{within-high, at_each}
use Rattle.basis.proofs.Lists.{row_below, length-tabulate}
use Rattle.basis.proofs.Outcome.{pass-if, pass_below, both-done, passed}
use Rattle.basis.proofs.Codec.{encode-settled}
use Rattle.scheme.specs.Naming.{own_number_names, kind_names, is_known, scheme_named}
use Rattle.scheme.specs.Naming as naming
use Rattle.scheme.specs.Coding.{codec_of, encode_outcome, decode_outcome, label_of}
use Rattle.scheme.specs.declared.Scheme.{Scheme}
use Rattle.scheme.proofs.Naming.{number-names, kind-back}
use Rattle.scheme.proofs.Coding.{faithful, decoded-writable}
use Rattle.nametable_format.specs.Format.{header_kind, header_length, entry_length, label_start, label_capacity, text_capacity, number_at, count_of, table_length, entry_at, kind_of, reader_of, length_of, label_in, is_filled, scheme_in}
use Rattle.nametable.specs.Answer.{form_tests, entry_judged, entries_judged, read_outcome, text_in, entry_text}
use Rattle.nametable_write.specs.Writing.{Entry, entry, entries_of, sum_of, scheme_of, entry_written, reader_in, entries_written, write_outcome, number_bytes, zeros, filled, entry_bytes, entries_bytes, table_of}
use Rattle.nametable_write.specs.Internal.{Spelled}
use Rattle.nametable.proofs.TableLaws.{by_entries, reader-part, read_table}
use Rattle.nametable_write.proofs.ListLaws.{tests-passed}
use Rattle.nametable_write.proofs.StoreLaws.{entry-long}
use Rattle.nametable_facts.specs.Entries.{entry_in, entries_from, entries_in, readers_of, schemes_of, lengths_of, points_of}
use Rattle.nametable_facts.proofs.Whole.{label-long}
use Rattle.nametable_facts.proofs.ReadBack.{zero-at, label-held}

-- a scheme's own number names it
number-known : (s : Scheme) → is_known (own_number_names (naming.number_of s)) ≡ true
unfolding is_known
number-known s = rw (number-names s)

scheme-again : (s : Scheme) → scheme_of (naming.number_of s) ≡ s
unfolding scheme_of scheme_named
scheme-again s = rw (number-names s)

-- what an entry that reads holds
pub record Read (least : ℕ) (e : List ℕ) : Type 0 where
  pub known : is_known (kind_names (kind_of e)) ≡ true
  pub rising : least ≤ reader_of e
  pub short : length_of e ≤ label_capacity
  pub fills : is_filled label_capacity e ≡ true
  pub points : ℕ
  pub decodes : decode_outcome (scheme_in e) text_capacity (label_in e) ≡ done points

pub judged-read : (least : ℕ) (e : List ℕ) {n : ℕ} → entry_judged 1 label_capacity least e ≡ done n → Read least e
unfolding entry_judged form_tests
judged-read least e j =
    let kind = passed _ _ _ _ _ j in
    let number = passed _ _ _ _ _ kind.1 in
    let size = passed _ _ _ _ _ number.1 in
    let fill = passed _ _ _ _ _ size.1 in
    let label = (both-done _ _ _ fill.1).0 in
    record {
      known = not-false _ kind.0;
      rising = ltb-false (reader_of e) least number.0;
      short = within-high 1 label_capacity (length_of e) (not-false _ size.0);
      fills = not-false _ fill.0;
      points = label.0;
      decodes = label.1;
    }

-- it may be written
module _ (least : ℕ) (e : List ℕ) (r : Read least e) where
  text-writable : Writable (codec_of (scheme_in e)) (text_in e)
  unfolding text_in
  text-writable = decoded-writable (scheme_in e) text_capacity r.points (label_in e) r.decodes

  text-encodes : encode_outcome (scheme_in e) label_capacity (text_in e) ≡ done (length (label_of (scheme_in e) (text_in e)))
  text-encodes =
      ((encode-settled (codec_of (scheme_in e)) (faithful (scheme_in e)) label_capacity (text_in e) (omega arith)).succeeds (length (label_of (scheme_in e) (text_in e)))).1 (text-writable, refl)

  spelled-again : Spelled (entry (reader_of e) (naming.number_of (scheme_in e)) (text_in e))
  spelled-again = (length (label_of (scheme_in e) (text_in e)), rw (scheme-again (scheme_in e)) text-encodes)

  written-again : entry_written least (entry_in e) ≡ done (length (label_of (scheme_in e) (text_in e)))
  unfolding entry_written entry_in
  written-again =
      pass_below 14 0 _ (reader_of e) least r.rising ∙ pass-if 14 0 _ _ (ap not (number-known (scheme_in e))) ∙ rw (scheme-again (scheme_in e)) text-encodes

-- entries that read may be written
read-written : (t : List ℕ) (index least left count total : ℕ) {n : ℕ} → entries_judged index least left (drop (table_length index) t) count ≡ done n
    → entries_written index least (entries_from t index left) total ≡ done total
unfolding entries_judged entries_from entries_written entry_at entry_in reader_in and_then
read-written t index least zero count total j = refl
read-written t index least (suc left) count total {n} j =
    let b = both-done _ _ _ j in
    let d : 3 + 67 * suc index ≡ 3 + 67 * index + 67 = omega arith in
    let later : entries_judged (suc index) (suc (reader_of (take 67 (drop (3 + 67 * index) t)))) left (drop (3 + 67 * suc index) t) count ≡ done n
    = rw (reader-part (drop (3 + 67 * index) t), d, ← drop-drop 67 (3 + 67 * index) t) b.1 in
    rw (written-again least (take 67 (drop (3 + 67 * index) t)) (judged-read least (take 67 (drop (3 + 67 * index) t)) b.0.1))
    (read-written t (suc index) (suc (reader_of (take 67 (drop (3 + 67 * index) t)))) left count total later)

-- the rows that list entries
pub rows-list : (es : List Entry) → entries_of (readers_of es) (schemes_of es) (lengths_of es) (points_of es) ≡ es
unfolding entries_of readers_of schemes_of lengths_of points_of
rows-list [] = refl
rows-list (entry reader scheme text ∷ es) = rw (take-append_seam text (points_of es), drop-append_seam text (points_of es), rows-list es)

readers-count : (es : List Entry) → length (readers_of es) ≡ length es
unfolding readers_of
readers-count [] = refl
readers-count (entry reader scheme text ∷ es) = ap suc (readers-count es)

schemes-count : (es : List Entry) → length (schemes_of es) ≡ length es
unfolding schemes_of
schemes-count [] = refl
schemes-count (entry reader scheme text ∷ es) = ap suc (schemes-count es)

lengths-count : (es : List Entry) → length (lengths_of es) ≡ length es
unfolding lengths_of
lengths-count [] = refl
lengths-count (entry reader scheme text ∷ es) = ap suc (lengths-count es)

points-count : (es : List Entry) → sum_of (lengths_of es) ≡ length (points_of es)
unfolding lengths_of points_of sum_of
points-count [] = refl
points-count (entry reader scheme text ∷ es) = omega (arith, points-count es, length-append text (points_of es))

from-count : (t : List ℕ) (index left : ℕ) → length (entries_from t index left) ≡ left
unfolding entries_from
from-count t index zero = refl
from-count t index (suc left) = ap suc (from-count t (suc index) left)

-- a table that reads whole: its entries may be written, in as many bytes
module _ (t : List ℕ) (n : ℕ) (read : read_outcome t ≡ done n) where
  pub entries-read : entries_judged 0 0 n (drop header_length t) n ≡ done n
  entries-read =
      let w = read_table t n read in
      sym (by_entries t w.kind (omega (arith, w.long)) w.counted (omega (arith, w.some, w.counted)) (omega (arith, w.few, w.counted)) w.long) ∙ read

  pub entry_whole : (k : ℕ) → k < n → length (entry_at t k) ≡ entry_length
  unfolding entry_at
  entry_whole k h = length-take-le 67 (drop (3 + 67 * k) t) (omega (arith, length-drop (3 + 67 * k) t, (read_table t n read).long))

  held-is : entries_in t ≡ entries_from t 0 n
  unfolding entries_in
  held-is = rw (← (read_table t n read).counted)

  pub rewritten : (capacity : ℕ) → length t ≤ capacity
      → write_outcome capacity (readers_of (entries_in t)) (schemes_of (entries_in t)) (lengths_of (entries_in t)) (points_of (entries_in t)) ≡ done (length t)
  unfolding write_outcome
  rewritten capacity room =
      let w = read_table t n read in
      let es = entries_from t 0 n in
      let r : length (readers_of es) ≡ n = readers-count es ∙ from-count t 0 n in
      let s : length (schemes_of es) ≡ length (readers_of es) = schemes-count es ∙ sym (readers-count es) in
      let l : length (lengths_of es) ≡ length (readers_of es) = lengths-count es ∙ sym (readers-count es) in
      let total : table_length (length (readers_of es)) ≡ length t = omega (arith, r, w.long) in
      rw held-is
      (pass_below 1 0 _ capacity (table_length (length (readers_of es))) (omega (arith, total))
      ∙ tests-passed (readers_of es) (schemes_of es) (lengths_of es) (points_of es) (omega (arith, r, w.some, w.counted)) (omega (arith, r, w.few, w.counted)) s l
      (sym (eq-eqb _ _ (points-count es))) _
      ∙ rw (rows-list es) (read-written t 0 0 n n (table_length (length (readers_of es))) entries-read) ∙ ap done total)

-- a whole entry of bytes that reads: it is written again as it was exactly if its label is the one
-- that writing gives
module _ (e : List ℕ) (long : length e ≡ entry_length) (below : AllBelow 256 e) (r : Read 0 e) where
  label-again : label_in (entry_bytes (entry_in e)) ≡ label_of (scheme_in e) (text_in e)
  unfolding entry_in
  label-again = label-held (reader_of e) (naming.number_of (scheme_in e)) (text_in e) (spelled-again 0 e r) ∙ rw (scheme-again (scheme_in e))

  same-label : entry_bytes (entry_in e) ≡ e → label_in e ≡ label_of (scheme_in e) (text_in e)
  same-label h = ap label_in (sym h) ∙ label-again

  kind-is : naming.kind_of (scheme_in e) ≡ at e 0
  unfolding scheme_in kind_of
  kind-is = kind-back (at e 0) r.known

  high_is : reader_of e / 256 ≡ at e 1
  unfolding reader_of number_at
  high_is = omega (arith, row_below 256 e (omega arith) below 2)

  low-is : reader_of e % 256 ≡ at e 2
  unfolding reader_of number_at
  low-is = omega (arith, row_below 256 e (omega arith) below 2)

  rest-zero : drop (length_of e) (drop label_start e) ≡ zeros (label_capacity - length_of e)
  unfolding is_filled zeros
  rest-zero =
      let short : length_of e ≤ 63 = r.short in
      let size : length (drop (length_of e) (drop 4 e)) ≡ 63 - length_of e = length-drop (length_of e) (drop 4 e) ∙ rw (length-drop 4 e) (omega arith) in
      ext_get_or 0 (drop (length_of e) (drop 4 e)) (zeros (63 - length_of e)) (size ∙ sym (length-tabulate (63 - length_of e) (λ _. 0)))
      (λ i h. rw (drop-drop (length_of e) 4 e, get_or-drop (4 + length_of e) e i 0)
      (eqb-true (at e (4 + length_of e + i)) 0 (at_each (63 - length_of e) (λ k. eqb (at e (4 + length_of e + k)) 0) r.fills i (rw size at h)) ∙ sym (zero-at (63 - length_of e) i)))

  parts : e ≡ at e 0 ∷ at e 1 ∷ at e 2 ∷ length_of e ∷ (label_in e ++ zeros (label_capacity - length_of e))
  unfolding length_of label_in
  parts =
      let a = drop-cons e 0 0 (omega arith) in
      let b = drop-cons e 1 0 (omega arith) in
      let c = drop-cons e 2 0 (omega arith) in
      let d = drop-cons e 3 0 (omega arith) in
      a ∙ ap (λ (l : List ℕ). at e 0 ∷ l) b ∙ ap (λ (l : List ℕ). at e 0 ∷ at e 1 ∷ l) c ∙ ap (λ (l : List ℕ). at e 0 ∷ at e 1 ∷ at e 2 ∷ l) d
      ∙ ap (λ (l : List ℕ). at e 0 ∷ at e 1 ∷ at e 2 ∷ at e 3 ∷ l) (sym (take-append-drop (at e 3) (drop 4 e)) ∙ ap (λ (l : List ℕ). take (at e 3) (drop 4 e) ++ l) rest-zero)

  same-entry : label_in e ≡ label_of (scheme_in e) (text_in e) → entry_bytes (entry_in e) ≡ e
  unfolding entry_bytes entry_in number_bytes filled
  same-entry h = rw (scheme-again (scheme_in e), ← h, label-long e long r.short, kind-is, high_is, low-is) (sym parts)

-- the entries of a table from an index on are written again as they were exactly if each is
held_same : (t : List ℕ) (index left : ℕ) → length t ≡ table_length (index + left)
    → ((k : ℕ) → k < left → entry_bytes (entry_in (entry_at t (index + k))) ≡ entry_at t (index + k))
    → entries_bytes (entries_from t index left) ≡ drop (table_length index) t
unfolding entries_bytes entries_from entry_at
held_same t index zero long h =
    let end : length t ≤ 3 + 67 * index = omega (arith, long) in
    sym (drop_of_length-le t end)
held_same t index (suc left) long h =
    let d : 3 + 67 * suc index ≡ 3 + 67 * index + 67 = omega arith in
    let i : index + 0 ≡ index = omega arith in
    let m : index + suc left ≡ suc index + left = omega arith in
    let later : entries_bytes (entries_from t (suc index) left) ≡ drop 67 (drop (3 + 67 * index) t)
    = held_same t (suc index) left (rw m at long) (λ k g. let s : suc index + k ≡ index + suc k = omega arith in rw s (h (suc k) (omega arith))) ∙ rw (d, ← drop-drop 67 (3 + 67 * index) t) in
    ap₂ ◌++◌ (rw i at (h 0 (omega arith))) later ∙ take-append-drop 67 (drop (3 + 67 * index) t)

same-held : (t : List ℕ) (index left : ℕ) → ((k : ℕ) → k < left → length (entry_bytes (entry_in (entry_at t (index + k)))) ≡ entry_length)
    → entries_bytes (entries_from t index left) ≡ drop (table_length index) t
    → (k : ℕ) → k < left → entry_bytes (entry_in (entry_at t (index + k))) ≡ entry_at t (index + k)
unfolding entries_bytes entries_from entry_at
same-held t index zero longs is k h = absurd (omega arith)
same-held t index (suc left) longs is zero h =
    let i : index + 0 ≡ index = omega arith in
    let first = rw i at (longs 0 (omega arith)) in
    rw i (sym (take_at (entry_bytes (entry_in (take 67 (drop (3 + 67 * index) t)))) (entries_bytes (entries_from t (suc index) left)) 67 first) ∙ ap (take 67) is)
same-held t index (suc left) longs is (suc k) h =
    let i : index + 0 ≡ index = omega arith in
    let first = rw i at (longs 0 (omega arith)) in
    let d : 3 + 67 * suc index ≡ 3 + 67 * index + 67 = omega arith in
    let s : index + suc k ≡ suc index + k = omega arith in
    let later : entries_bytes (entries_from t (suc index) left) ≡ drop (3 + 67 * suc index) t
    = sym (drop_at (entry_bytes (entry_in (take 67 (drop (3 + 67 * index) t)))) (entries_bytes (entries_from t (suc index) left)) 67 first)
    ∙ ap (drop 67) is ∙ rw (drop-drop 67 (3 + 67 * index) t, d) in
    rw s (same-held t (suc index) left (λ j g. let u : suc index + j ≡ index + suc j = omega arith in rw u (longs (suc j) (omega arith))) later k (omega arith))

-- a table of bytes that reads whole is written again as it was exactly if every label is the one
-- that writing gives
module _ (t : List ℕ) (n : ℕ) (read : read_outcome t ≡ done n) (below : AllBelow 256 t) where
  entry-below : (k : ℕ) → k < n → AllBelow 256 (entry_at t k)
  unfolding entry_at
  entry-below k h i g =
      let inside : i < 67 = rw (entry_whole t n read k h) at g in
      rw (get_or-take 67 (drop (3 + 67 * k) t) i 0 inside, get_or-drop (3 + 67 * k) t i 0) (row_below 256 t (omega arith) below (3 + 67 * k + i))

  entry_read : (k : ℕ) → k < n → Read 0 (entry_at t k)
  entry_read k h = judged-read 0 (entry_at t k) ((read_table t n read).good k h).1

  again-long : (k : ℕ) → k < n → length (entry_bytes (entry_in (entry_at t (0 + k)))) ≡ entry_length
  unfolding entry_in
  again-long k h =
      let z : 0 + k ≡ k = omega arith in
      rw z (entry-long _ _ _ (spelled-again 0 (entry_at t k) (entry_read k h)))

  header_is : t ≡ header_kind ∷ n / 256 ∷ n % 256 ∷ drop header_length t
  unfolding count_of number_at
  header_is =
      let w = read_table t n read in
      let high : at t 1 ≡ n / 256 = omega (arith, w.counted, row_below 256 t (omega arith) below 2) in
      let low : at t 2 ≡ n % 256 = omega (arith, w.counted, row_below 256 t (omega arith) below 2) in
      let a = drop-cons t 0 0 (omega (arith, w.long)) in
      let b = drop-cons t 1 0 (omega (arith, w.long)) in
      let c = drop-cons t 2 0 (omega (arith, w.long)) in
      a ∙ ap (λ (l : List ℕ). at t 0 ∷ l) b ∙ ap (λ (l : List ℕ). at t 0 ∷ at t 1 ∷ l) c ∙ rw (w.kind, high, low)

  same-table : entries_bytes (entries_from t 0 n) ≡ drop header_length t → table_of (entries_in t) ≡ t
  unfolding table_of number_bytes
  same-table h = rw (held-is t n read, from-count t 0 n, h) (sym header_is)

  table_same : table_of (entries_in t) ≡ t → entries_bytes (entries_from t 0 n) ≡ drop header_length t
  unfolding table_of number_bytes
  table_same h = ap (drop header_length) (rw (held-is t n read) at h)

  pub same_bytes : (table_of (entries_in t) ≡ t) ↔ ((k : ℕ) → k < n → label_in (entry_at t k) ≡ label_of (scheme_in (entry_at t k)) (entry_text t k))
  same_bytes = (
    λ h k g.
        let z : 0 + k ≡ k = omega arith in
        same-label (entry_at t k) (entry_whole t n read k g) (entry-below k g) (entry_read k g) (rw z at (same-held t 0 n again-long (table_same h) k g)),
    λ labels.
        let z : 0 + n ≡ n = omega arith in
        same-table (held_same t 0 n (rw z (read_table t n read).long)
        (λ k g. let i : 0 + k ≡ k = omega arith in rw i (same-entry (entry_at t k) (entry_whole t n read k g) (entry-below k g) (entry_read k g) (labels k g)))),
  )
