-- Laws on tables: the tests on the header and the length in their turn, the entries one by one, and
-- a table that reads whole.
use Prim.Native.Nat.{ℕ, zero, suc, ◌+◌, ◌-◌, ◌*◌, ◌≤◌, ◌<◌}
use mathlib.Core.Path.{◌≡◌, refl, sym, ap, ◌∙◌}
use mathlib.Core.Bool.{not}
use mathlib.Core.List.{List}
use lib.Dec.{eqb, ltb, leb}
use lib.ListN.{length, take, drop}
use lib.Seq.{get_or-take, drop-drop}
use borrow.Author.Tests.{ltb-false, eq-eqb, ne_eqb, eqb-true, le-leb, lt-leb, leb-false, not-false}
use native.Mathlib.Numerals.{add-one}
use native.Mathlib.Omega.{arith}
use Rattle.basis.specs.Tests.{within}
use Rattle.basis.specs.Rows.{at}
use Rattle.std.proofs.Common.{Result, Ok, Err}
use Rattle.basis.specs.Outcome.{Outcome, done, refused, refused_if, and_then, outcome_by, buffer_after}
use Rattle.basis.specs.declared.Refusal.{Refusal}
use Rattle.basis.proofs.Tests.{cases, within-true, within-below, within-above, within_low, within-high}
use Rattle.basis.proofs.Outcome.{stop-if, pass-if, stop-equal, pass-equal, stop-below, pass_below, refusal-kept, both-done, passed}
use Rattle.scheme.specs.Naming as naming
use Rattle.nametable_format.proofs.Parts.{entry-part}
use Rattle.nametable_format.specs.Format.{header_kind, header_length, most_entries, entry_length, label_capacity, text_capacity, number_at, count_of, table_length, entry_at, reader_of, scheme_in}
use Rattle.nametable.specs.Answer.{table_outcome, header_tests, header_outcome, length_tests, form_tests, entry_judged, entries_judged, size_tests, read_outcome, text_in, entry_text, found_outcome, find_outcome, entry_read, lone_entry_outcome, judged_entry_outcome, found, not_found, entry_outcome, entry_from}
use Rattle.nametable.specs.declared.ReadEntry.{ReadEntry}

-- the tests on a header, each in its turn
module _ (kind : ℕ) (t : List ℕ) (next : Outcome) where
  pub empty-header : length t ≡ 0 → header_tests kind t next ≡ refused 13 0
  unfolding header_tests
  empty-header h = stop-equal 13 0 _ _ _ h

  module _ (some : length t ≡ 0 → ⊥) where
    pub other-kind : (at t 0 ≡ kind → ⊥) → header_tests kind t next ≡ refused 14 0
    unfolding header_tests
    other-kind h = pass-equal 13 0 _ _ _ some ∙ stop-if 14 0 _ _ (ap not (ne_eqb _ _ h))

    pub short-header : at t 0 ≡ kind → length t < header_length → header_tests kind t next ≡ refused 13 0
    unfolding header_tests
    short-header is h = pass-equal 13 0 _ _ _ some ∙ pass-if 14 0 _ _ (ap not (eq-eqb _ _ is)) ∙ stop-below 13 0 _ _ _ h

  -- and those on a whole header, which announces n entries
  module _ (is : at t 0 ≡ kind) (header : header_length ≤ length t) {n : ℕ} (counted : n ≡ count_of t) where
    by_count : header_tests kind t next ≡ refused_if (not (within 1 most_entries n)) 14 0 next
    unfolding header_tests
    by_count = rw counted (pass-equal 13 0 _ (length t) 0 (λ e. omega arith) ∙ pass-if 14 0 _ _ (ap not (eq-eqb _ _ is)) ∙ pass_below 13 0 _ _ _ header)

    pub no-entries : n < 1 → header_tests kind t next ≡ refused 14 0
    no-entries h = by_count ∙ stop-if 14 0 _ _ (ap not (within-below 1 most_entries n h))

    pub many-entries : most_entries < n → header_tests kind t next ≡ refused 14 0
    many-entries h = by_count ∙ stop-if 14 0 _ _ (ap not (within-above 1 most_entries n h))

    pub header-passed : 1 ≤ n → n ≤ most_entries → header_tests kind t next ≡ next
    header-passed some few = by_count ∙ pass-if 14 0 _ _ (ap not (within-true 1 most_entries n some few))

  -- what follows a header, by the verdict on the header alone
  pub header-then : header_tests kind t next ≡ and_then (λ p. p) (header_outcome kind t) next
  unfolding header_outcome header_tests refused_if and_then
  header-then =
      cases (eqb (length t) 0) (λ e. rw e)
      (λ e. cases (not (eqb (at t 0) kind)) (λ f. rw (e, f))
      (λ f. cases (ltb (length t) header_length) (λ g. rw (e, f, g))
      (λ g. cases (not (within 1 most_entries (count_of t))) (λ h. rw (e, f, g, h)) (λ h. rw (e, f, g, h)))))

-- a lawful header, whatever follows it
pub record Header (kind : ℕ) (t : List ℕ) : Type 0 where
  pub is : at t 0 ≡ kind
  pub long : header_length ≤ length t
  pub some : 1 ≤ count_of t
  pub few : count_of t ≤ most_entries

pub header-done : (kind : ℕ) (t : List ℕ) (next : Outcome) {n : ℕ} → header_tests kind t next ≡ done n → Header kind t × (next ≡ done n)
unfolding header_tests
header-done kind t next e =
    let is = passed _ _ _ _ _ (passed _ _ _ _ _ e).1 in
    let long = passed _ _ _ _ _ is.1 in
    let count = passed _ _ _ _ _ long.1 in (
      record {
        is = eqb-true _ _ (not-false _ is.0);
        long = ltb-false (length t) header_length long.0;
        some = within_low 1 most_entries (count_of t) (not-false _ count.0);
        few = within-high 1 most_entries (count_of t) (not-false _ count.0);
      },
      count.1,
    )

-- a header that announces n entries
pub header-counts : (kind : ℕ) (t : List ℕ) {n : ℕ} → header_outcome kind t ≡ done n → n ≡ count_of t
unfolding header_outcome
header-counts kind t e = let d = (header-done kind t (done (count_of t)) e).1 in cc

-- a header that was judged: its refusal is what it is with anything that follows, or it is lawful
module _ (kind : ℕ) (t : List ℕ) (announced : Result ℕ Refusal) (judged : table_outcome announced ≡ header_outcome kind t) where
  pub header_refused : {refusal : Refusal} {r : Result ℕ Refusal} (next : Outcome) → announced ≡ Err refusal → r ≡ Err refusal → table_outcome r ≡ header_tests kind t next
  unfolding outcome_by and_then
  header_refused next is handed = rw handed (sym (header-then kind t next ∙ rw (← judged, is)))

  pub header-lawful : {n : ℕ} → announced ≡ Ok n → Header kind t × (n ≡ count_of t)
  unfolding outcome_by header_outcome
  header-lawful is =
      let answers = sym judged ∙ ap table_outcome is in
      ((header-done kind t (done (count_of t)) answers).0, header-counts kind t answers)

-- the tests on the length, after a lawful header that announces n entries
module _ (h : List ℕ) (kind : at h 0 ≡ header_kind) (header : header_length ≤ length h) {n : ℕ} (is : n ≡ count_of h) (some : 1 ≤ n) (few : n ≤ most_entries) where
  module _ (bytes : ℕ) (next : Outcome) where
    by_length : size_tests h bytes next ≡ length_tests bytes (table_length n) next
    by_length = header-passed header_kind h _ kind header is some few ∙ rw is

    pub size-cut : bytes < table_length n → size_tests h bytes next ≡ refused 13 0
    unfolding length_tests
    size-cut b = by_length ∙ stop-below 13 0 _ bytes (table_length n) b

    pub size-over : table_length n < bytes → size_tests h bytes next ≡ refused 14 0
    unfolding length_tests
    size-over b = by_length ∙ pass_below 13 0 _ bytes (table_length n) (omega arith) ∙ stop-below 14 0 _ (table_length n) bytes b

    pub size-right : bytes ≡ table_length n → size_tests h bytes next ≡ next
    unfolding length_tests
    size-right b = by_length ∙ pass_below 13 0 _ bytes (table_length n) (omega arith) ∙ pass_below 14 0 _ (table_length n) bytes (omega arith)

  -- the same of a whole table
  pub cut-table : length h < table_length n → read_outcome h ≡ refused 13 0
  unfolding read_outcome
  cut-table b = size-cut (length h) _ b

  pub by_entries : length h ≡ table_length n → read_outcome h ≡ entries_judged 0 0 n (drop header_length h) n
  unfolding read_outcome
  by_entries b = size-right (length h) _ b ∙ rw is

-- an entry's answer, back to the outcome that it came from
pub from-refused : (e : List ℕ) (o : Outcome) {number position : ℕ} → entry_from e o ≡ not_found number position → o ≡ refused number position
unfolding entry_from
from-refused e (done n) q = let z : ◌≡◌ {A = ℕ} 0 1 = cc in absurd (omega arith)
from-refused e (refused k p) q = cc

pub from_found : (e : List ℕ) (o : Outcome) {reader scheme count : ℕ} → entry_from e o ≡ found reader scheme count
    → (o ≡ done count) × (reader ≡ reader_of e) × (scheme ≡ naming.number_of (scheme_in e))
unfolding entry_from
from_found e (done n) q = (cc, cc, cc)
from_found e (refused k p) q = let z : ◌≡◌ {A = ℕ} 0 1 = cc in absurd (omega arith)

-- the entry at index i, as the part of the table that is read
abbrev part_at : List ℕ → ℕ → List ℕ
part_at t i = take (table_length i + entry_length - table_length i) (drop (table_length i) t)

pub part-is : (t : List ℕ) (i : ℕ) → part_at t i ≡ entry_at t i
unfolding entry_at
part-is t i = entry-part t (table_length i)

-- the reader number is among the bytes of the entry
pub reader-part : (bytes : List ℕ) → reader_of (take entry_length bytes) ≡ reader_of bytes
unfolding reader_of number_at
reader-part bytes = rw (get_or-take 67 bytes 1 0 (omega arith), get_or-take 67 bytes 2 0 (omega arith))

-- a turn of the loop, at the entry at index i
module _ (t : List ℕ) (count i least : ℕ) where
  abbrev left : ℕ → Outcome
  left k = entries_judged i least k (drop (table_length i) t) count

  module _ (more : i < count) (judged : Result ReadEntry Refusal) (judges : entry_outcome judged ≡ entry_from (part_at t i) (entry_read least i (part_at t i))) where
    left_is : left (count - i) ≡ left (suc (count - suc i))
    left_is = let l : count - i ≡ suc (count - suc i) = omega arith in rw l

    pub turn-stops : {refusal : Refusal} {r : Result ℕ Refusal} → judged ≡ Err refusal → r ≡ Err refusal → table_outcome r ≡ left (count - i)
    unfolding entry_outcome outcome_by entries_judged entry_read entry_at
    turn-stops is a =
        let q = from-refused _ _ (sym judges ∙ ap entry_outcome is) in
        rw (a, left_is) (sym (refusal-kept _ _ _ _ refl (rw part-is at q)))

    pub turn-goes : {entry : ReadEntry} → judged ≡ Ok entry
        → entries_judged (i + 1) (entry.reader + 1) (count - (i + 1)) (drop (table_length (i + 1)) t) count ≡ left (count - i)
    unfolding entry_outcome entries_judged entry_read entry_at and_then
    turn-goes {entry} is =
        let q = from_found _ _ (sym judges ∙ ap entry_outcome is) in
        let d : 3 + 67 * suc i ≡ 3 + 67 * i + 67 = omega arith in
        let p = (both-done _ _ _ (rw part-is at q.0)).0 in
        let j : entry_judged 1 label_capacity least (take entry_length (drop (table_length i) t)) ≡ done p.0 = p.1 in
        let r : entry.reader ≡ reader_of (drop (3 + 67 * i) t) = q.1 ∙ ap reader_of (part-is t i) ∙ reader-part (drop (3 + 67 * i) t) in
        rw (left_is, add-one i, add-one entry.reader, r, d, ← drop-drop 67 (3 + 67 * i) t, j)

-- no entry left
pub none_left : (index least count total : ℕ) (bytes : List ℕ) → count ≤ index → entries_judged index least (count - index) bytes total ≡ done total
unfolding entries_judged
none_left index least count total bytes h = let z : count - index ≡ 0 = omega arith in rw z

-- an entry that is judged good is good for a smaller least reader number
pub lower-least : (fewest room least : ℕ) (e : List ℕ) {n : ℕ} → entry_judged fewest room least e ≡ done n → entry_judged fewest room 0 e ≡ done n
unfolding entry_judged form_tests
lower-least fewest room least e g =
    let kind = passed _ _ _ _ _ g in
    pass-if 14 0 _ _ kind.0 ∙ pass_below 14 0 _ (reader_of e) 0 (omega arith) ∙ (passed _ _ _ _ _ kind.1).1

-- all entries good: the answer is the total, and each entry is good
entries-total : (index least left : ℕ) (bytes : List ℕ) (total n : ℕ) → entries_judged index least left bytes total ≡ done n → n ≡ total
unfolding entries_judged
entries-total index least zero bytes total n e = cc
entries-total index least (suc left) bytes total n e = entries-total (suc index) (suc (reader_of bytes)) left (drop entry_length bytes) total n (both-done _ _ _ e).1

each-good : (index least left : ℕ) (bytes : List ℕ) (total n : ℕ) → entries_judged index least left bytes total ≡ done n
    → (k : ℕ) → k < left → (m : ℕ) × (entry_judged 1 label_capacity 0 (take entry_length (drop (entry_length * k) bytes)) ≡ done m)
unfolding entries_judged
each-good index least zero bytes total n e k h = absurd (omega arith)
each-good index least (suc left) bytes total n e zero h = let f = (both-done _ _ _ e).0 in (f.0, lower-least 1 label_capacity least (take entry_length bytes) f.1)
each-good index least (suc left) bytes total n e (suc k) h =
    let d : 67 * suc k ≡ 67 + 67 * k = omega arith in
    rw (d, ← drop-drop (67 * k) 67 bytes)
    (each-good (suc index) (suc (reader_of bytes)) left (drop entry_length bytes) total n (both-done _ _ _ e).1 k (omega arith))

-- what a table that reads whole holds
pub record Table (t : List ℕ) (n : ℕ) : Type 0 where
  pub kind : at t 0 ≡ header_kind
  pub some : 1 ≤ count_of t
  pub few : count_of t ≤ most_entries
  pub counted : n ≡ count_of t
  pub long : length t ≡ table_length n
  pub good : (k : ℕ) → k < n → (m : ℕ) × (entry_judged 1 label_capacity 0 (entry_at t k) ≡ done m)

pub read_table : (t : List ℕ) (n : ℕ) → read_outcome t ≡ done n → Table t n
unfolding read_outcome length_tests entry_at
read_table t n e =
    let header = header-done header_kind t _ e in
    let uncut = passed _ _ _ _ _ header.1 in
    let unlong = passed _ _ _ _ _ uncut.1 in
    let counted : n ≡ count_of t = entries-total 0 0 (count_of t) (drop header_length t) (count_of t) n unlong.1 in
    record {
      kind = header.0.is;
      some = header.0.some;
      few = header.0.few;
      counted = counted;
      long = omega (arith, ltb-false (length t) (table_length (count_of t)) uncut.0, ltb-false (table_length (count_of t)) (length t) unlong.0);
      good = λ k h. rw (← drop-drop (67 * k) 3 t) (each-good 0 0 (count_of t) (drop header_length t) (count_of t) n unlong.1 k (omega arith));
    }

-- the tests on one entry by index, each in its turn
module _ (verdict : Outcome) (count index capacity points : ℕ) where
  pub found-no-room : capacity < text_capacity → found_outcome verdict count index capacity points ≡ refused 1 0
  unfolding found_outcome
  found-no-room h = stop-below 1 0 _ _ _ h

  module _ (room : text_capacity ≤ capacity) where
    pub found-refused : {number position : ℕ} → verdict ≡ refused number position → found_outcome verdict count index capacity points ≡ refused number position
    unfolding found_outcome and_then
    found-refused e = pass_below 1 0 _ _ _ room ∙ rw e

    pub found-past : {n : ℕ} → verdict ≡ done n → count ≤ index → found_outcome verdict count index capacity points ≡ refused 14 0
    unfolding found_outcome and_then
    found-past e h = pass_below 1 0 _ _ _ room ∙ rw e (stop-if 14 0 _ _ (le-leb _ _ h))

    pub found_here : {n : ℕ} → verdict ≡ done n → index < count → found_outcome verdict count index capacity points ≡ done points
    unfolding found_outcome and_then
    found_here e h = pass_below 1 0 _ _ _ room ∙ rw e (pass-if 14 0 _ _ (lt-leb _ _ h))

pub find-refused : (t : List ℕ) (index capacity : ℕ) {number position : ℕ} → text_capacity ≤ capacity → read_outcome t ≡ refused number position
    → find_outcome t index capacity ≡ refused number position
unfolding find_outcome
find-refused t index capacity room e = found-refused _ _ _ _ _ room e

-- and of a table that was judged
module _ (t : List ℕ) (index capacity : ℕ) where
  pub judged-no-room : capacity < text_capacity → judged_entry_outcome t index capacity ≡ refused 1 0
  unfolding judged_entry_outcome
  judged-no-room h = stop-below 1 0 _ _ _ h

  module _ (room : text_capacity ≤ capacity) where
    pub judged-no-header : length t < header_length → judged_entry_outcome t index capacity ≡ refused 13 0
    unfolding judged_entry_outcome
    judged-no-header h = pass_below 1 0 _ _ _ room ∙ stop-below 13 0 _ _ _ h

    module _ (header : header_length ≤ length t) {n : ℕ} (is : n ≡ count_of t) where
      by_index : judged_entry_outcome t index capacity ≡ refused_if (leb n index) 14 0 (refused_if (ltb (length t) (table_length (suc index))) 13 0 (entry_read 0 index (entry_at t index)))
      unfolding judged_entry_outcome
      by_index = rw is (pass_below 1 0 _ _ _ room ∙ pass_below 13 0 _ _ _ header)

      pub judged-no-entry : n ≤ index → judged_entry_outcome t index capacity ≡ refused 14 0
      judged-no-entry h = by_index ∙ stop-if 14 0 _ _ (le-leb _ _ h)

      module _ (inside : index < n) where
        pub judged-cut : length t < table_length index + entry_length → judged_entry_outcome t index capacity ≡ refused 13 0
        judged-cut h = by_index ∙ pass-if 14 0 _ _ (lt-leb _ _ inside) ∙ stop-below 13 0 _ (length t) (table_length (suc index)) (omega arith)

        pub judged-read : table_length index + entry_length ≤ length t → judged_entry_outcome t index capacity ≡ entry_read 0 index (entry_at t index)
        judged-read h = by_index ∙ pass-if 14 0 _ _ (lt-leb _ _ inside) ∙ pass_below 13 0 _ (length t) (table_length (suc index)) (omega arith)

-- the tests on an entry that comes without its table
module _ (least position capacity : ℕ) (e : List ℕ) where
  pub lone-no-room : capacity < text_capacity → lone_entry_outcome least position capacity e ≡ refused 1 0
  unfolding lone_entry_outcome
  lone-no-room h = stop-below 1 0 _ _ _ h

  module _ (room : text_capacity ≤ capacity) where
    pub lone-cut : length e < entry_length → lone_entry_outcome least position capacity e ≡ refused 13 0
    unfolding lone_entry_outcome length_tests
    lone-cut h = pass_below 1 0 _ _ _ room ∙ stop-below 13 0 _ _ _ h

    pub lone-long : entry_length < length e → lone_entry_outcome least position capacity e ≡ refused 14 0
    unfolding lone_entry_outcome length_tests
    lone-long h = pass_below 1 0 _ _ _ room ∙ pass_below 13 0 _ (length e) entry_length (omega arith) ∙ stop-below 14 0 _ _ _ h

    pub lone-read : length e ≡ entry_length → lone_entry_outcome least position capacity e ≡ entry_read least position e
    unfolding lone_entry_outcome length_tests
    lone-read h = pass_below 1 0 _ _ _ room ∙ pass_below 13 0 _ (length e) entry_length (omega arith) ∙ pass_below 14 0 _ entry_length (length e) (omega arith)

-- these tests by one name
pub ruleset lone_stops = (lone-no-room, lone-cut, lone-long)

-- one entry of a table that reads whole: `judged_entry` answers as `entry`
module _ (t : List ℕ) (n : ℕ) (read : read_outcome t ≡ done n) (index : ℕ) where
  entry-good : index < n → entry_read 0 index (entry_at t index) ≡ done (length (entry_text t index))
  unfolding entry_read and_then
  entry-good h = rw ((read_table t n read).good index h).1

  pub judged-as-found : (capacity : ℕ) → judged_entry_outcome t index capacity ≡ find_outcome t index capacity
  unfolding judged_entry_outcome find_outcome found_outcome and_then
  judged-as-found capacity =
      let w = read_table t n read in
      ap (refused_if (ltb capacity text_capacity) 1 0)
      (pass_below 13 0 _ (length t) header_length (omega (arith, w.long))
      ∙ cases (leb (count_of t) index)
      (λ e. stop-if 14 0 _ _ e ∙ sym (stop-if 14 0 _ _ e))
      (λ e.
      let inside : index < count_of t = leb-false _ _ e in
      pass-if 14 0 _ _ e ∙ pass_below 13 0 _ (length t) (table_length (suc index)) (omega (arith, w.long, w.counted)) ∙ entry-good (omega (arith, w.counted))
      ∙ sym (pass-if 14 0 _ _ e))
      ∙ rw read)

-- an entry that was read as a part of the table
pub part-read : (t : List ℕ) (index least position : ℕ) (r : Result ReadEntry Refusal) (outcome : Outcome) (buffer now : List ℕ)
    → (entry_outcome r ≡ entry_from (part_at t index) (entry_read least position (part_at t index))) × (now ≡ buffer_after (entry_read least position (part_at t index)) (text_in (part_at t index)) buffer)
    → least ≡ 0 → position ≡ index → outcome ≡ entry_read 0 index (entry_at t index)
    → (entry_outcome r ≡ entry_from (entry_at t index) outcome) × (now ≡ buffer_after outcome (entry_text t index) buffer)
part-read t index least position r outcome buffer now given l p is = rw is (rw (part-is, l, p) at given)
