-- Laws on short tables: the entries one by one, and a table that reads whole.
use Prim.Native.Nat.{ℕ, zero, suc, ◌+◌, ◌-◌, ◌≤◌, ◌<◌}
use mathlib.Core.Path.{◌≡◌, refl, sym, ap, ◌∙◌}
use mathlib.Core.List.{List}
use lib.ListN.{length, take, drop}
use borrow.Author.Tests.{eqb-false, ltb-false}
use native.Mathlib.Numerals.{add-one}
use native.Mathlib.Omega.{arith}
use Rattle.basis.specs.Outcome.{done, refused, and_then}
use Rattle.basis.proofs.Outcome.{pass-equal, pass_below, both-done, passed}
use Rattle.nametable_format.specs.Format.{header_length, text_capacity, count_of, kind_of, reader_of}
use Rattle.nametable.proofs.TableLaws.{Header, header-passed, header-done, lower-least, found-no-room, found-past, found_here}
use Rattle.nametable_short_format.specs.Format.{short_header_kind, room_of, short_length, first_entry, after_first, from_entry, short_entry_at, long_of}
use Rattle.nametable_short_read.specs.Answer.{whole_tests, short_entry_judged, short_entries_judged, short_read_outcome, short_find_outcome}
use Rattle.nametable_short_read.specs.Internal.{short_entry_read, BeginsAt}
use Rattle.nametable_short_format.proofs.EntryLaws.{EndsAt, first-size}

-- with a lawful header the entries decide
pub short-by-entries : (t : List ℕ) → Header short_header_kind t → {n : ℕ} → n ≡ count_of t → short_read_outcome t ≡ short_entries_judged 0 0 n (drop header_length t) n
unfolding short_read_outcome
short-by-entries t h is = header-passed short_header_kind t _ h.is h.long is (rw is h.some) (rw is h.few) ∙ rw is

-- bytes that begin with an entry of a known kind, which is whole, and good for the least reader
-- number
pub record GoodFrom (least : ℕ) (bytes : List ℕ) : Type 0 where
  pub known : 1 ≤ room_of (kind_of bytes)
  pub whole : short_length (kind_of bytes) ≤ length bytes
  pub judged : (m : ℕ) × (short_entry_judged least (first_entry bytes) ≡ done m)

-- the same for any reader number
abbrev pub GoodEntry : List ℕ → Type 0
GoodEntry bytes = GoodFrom 0 bytes

lower-good : (least : ℕ) (bytes : List ℕ) → GoodFrom least bytes → GoodEntry bytes
unfolding short_entry_judged
lower-good least bytes g = record { known = g.known; whole = g.whole; judged = (g.judged.0, lower-least _ _ least (long_of (first_entry bytes)) g.judged.1) }

-- the first of some entries, and those after it
module _ (index least left : ℕ) (bytes : List ℕ) (total : ℕ) where
  pub first_good : {n : ℕ} → short_entries_judged index least (suc left) bytes total ≡ done n
      → GoodFrom least bytes × (short_entries_judged (suc index) (suc (reader_of bytes)) left (after_first bytes) total ≡ done n)
  unfolding short_entries_judged whole_tests
  first_good e =
      let kind = passed _ _ _ _ _ (passed _ _ _ _ _ e).1 in
      let size = passed _ _ _ _ _ kind.1 in
      let verdict = both-done _ _ _ size.1 in
      let known = eqb-false (room_of (kind_of bytes)) 0 kind.0 in
      (record { known = omega arith; whole = ltb-false _ _ size.0; judged = verdict.0 }, verdict.1)

  pub first-passed : GoodFrom least bytes → short_entries_judged index least (suc left) bytes total ≡ short_entries_judged (suc index) (suc (reader_of bytes)) left (after_first bytes) total
  unfolding short_entries_judged whole_tests short_length and_then
  first-passed g =
      pass-equal 13 0 _ (length bytes) 0 (λ e. omega (arith, g.whole)) ∙ pass-equal 14 index _ (room_of (kind_of bytes)) 0 (λ e. omega (arith, g.known))
      ∙ pass_below 13 0 _ _ _ g.whole ∙ rw g.judged.1

-- all entries good: the answer is the total, and each entry is good
entries-total : (index least left : ℕ) (bytes : List ℕ) (total : ℕ) {n : ℕ} → short_entries_judged index least left bytes total ≡ done n → n ≡ total
unfolding short_entries_judged
entries-total index least zero bytes total e = let d = (passed _ _ _ _ _ e).1 in cc
entries-total index least (suc left) bytes total e =
    entries-total (suc index) (suc (reader_of bytes)) left (after_first bytes) total (first_good index least left bytes total e).1

each-good : (index least left : ℕ) (bytes : List ℕ) (total : ℕ) {n : ℕ} → short_entries_judged index least left bytes total ≡ done n
    → (k : ℕ) → k < left → GoodEntry (from_entry k bytes)
unfolding from_entry
each-good index least zero bytes total e k h = absurd (omega arith)
each-good index least (suc left) bytes total e zero h = lower-good least bytes (first_good index least left bytes total e).0
each-good index least (suc left) bytes total e (suc k) h =
    each-good (suc index) (suc (reader_of bytes)) left (after_first bytes) total (first_good index least left bytes total e).1 k (omega arith)

-- what a short table that reads whole holds
pub record ShortTable (t : List ℕ) (n : ℕ) : Type 0 where
  pub header : Header short_header_kind t
  pub counted : n ≡ count_of t
  pub good : (k : ℕ) → k < n → GoodEntry (from_entry k (drop header_length t))

pub short-read-table : (t : List ℕ) (n : ℕ) → short_read_outcome t ≡ done n → ShortTable t n
unfolding short_read_outcome
short-read-table t n e =
    let header = header-done short_header_kind t _ e in
    let counted : n ≡ count_of t = entries-total 0 0 (count_of t) (drop header_length t) (count_of t) header.1 in
    record { header = header.0; counted = counted; good = λ k h. each-good 0 0 (count_of t) (drop header_length t) (count_of t) header.1 k (omega arith) }

pub short-entries-read : (t : List ℕ) (n : ℕ) → short_read_outcome t ≡ done n → short_entries_judged 0 0 n (drop header_length t) n ≡ done n
unfolding short_read_outcome
short-entries-read t n e = rw (← (short-read-table t n e).counted) at (header-done short_header_kind t _ e).1

-- one entry of it by index
pub short-entry-good : (t : List ℕ) (n : ℕ) → ShortTable t n → (index : ℕ) → index < n
    → (x : ℕ) → and_then (λ _. index) (short_entry_judged 0 (short_entry_at t index)) (done x) ≡ done x
unfolding short_entry_at and_then
short-entry-good t n w index h x = rw (w.good index h).judged.1

-- the entry at the next index begins where the one at an index ends
from_next : (index : ℕ) (bytes : List ℕ) → from_entry (suc index) bytes ≡ after_first (from_entry index bytes)
unfolding from_entry
from_next zero bytes = refl
from_next (suc index) bytes = from_next index (after_first bytes)

pub begins-next : (t : List ℕ) (index start end : ℕ) → BeginsAt t index start → EndsAt t start end → BeginsAt t (index + 1) end
begins-next t index start end b e = record {
  from = rw (add-one index) (e.after ∙ ap after_first b.from ∙ sym (from_next index (drop header_length t)));
  inside = e.inside;
}

-- the entry at an index of a short table that reads whole, as the part of the table that is read
module _ (t : List ℕ) (n : ℕ) (read : short_read_outcome t ≡ done n) (index : ℕ) where
  pub past-last : (capacity : ℕ) → text_capacity ≤ capacity → n ≤ index → short_find_outcome t index capacity ≡ refused 14 0
  unfolding short_find_outcome
  past-last capacity room h = found-past _ _ _ _ _ room read (rw (← (short-read-table t n read).counted) h)

  module _ (start end : ℕ) (begins : BeginsAt t index start) (ends : EndsAt t start end) where
    pub part-found : take (end - start) (drop start t) ≡ short_entry_at t index
    unfolding short_entry_at
    part-found = ends.entry ∙ ap first_entry begins.from

    module _ (inside : index < n) where
      pub part-sized : length (take (end - start) (drop start t)) ≡ short_length (kind_of (take (end - start) (drop start t)))
      unfolding short_entry_at
      part-sized = rw part-found (first-size (from_entry index (drop header_length t)) ((short-read-table t n read).good index inside).whole)

      pub read_found : (capacity : ℕ) → text_capacity ≤ capacity → short_entry_read 0 index (take (end - start) (drop start t)) ≡ short_find_outcome t index capacity
      unfolding short_entry_read short_find_outcome
      read_found capacity room =
          rw part-found (short-entry-good t n (short-read-table t n read) index inside _)
          ∙ sym (found_here _ _ _ _ _ room read (rw (← (short-read-table t n read).counted) inside))

-- a text that has not room enough
pub short_no_room : (t : List ℕ) (index capacity : ℕ) → capacity < text_capacity → short_find_outcome t index capacity ≡ refused 1 0
unfolding short_find_outcome
short_no_room t index capacity h = found-no-room _ _ _ _ _ h
