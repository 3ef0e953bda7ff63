-- Reader numbers of long tables: those of a whole one rise, and a number at which they are split.
use Prim.Native.Nat.{ℕ, zero, suc, ◌+◌, ◌*◌, ◌≤◌, ◌<◌}
use mathlib.Core.Path.{◌≡◌, refl, sym, ◌∙◌}
use mathlib.Core.Bool.{true, false}
use mathlib.Core.List.{List}
use lib.Dec.{eqb}
use lib.ListN.{take, drop}
use lib.Seq.{drop-drop, get_or-drop}
use borrow.Author.Tests.{lt-ltb, le-ltb, eq-eqb, ne_eqb}
use native.Mathlib.Omega.{arith}
use Rattle.basis.specs.Outcome.{done}
use Rattle.basis.proofs.Tests.{by-lt, first-at, first-none}
use Rattle.basis.proofs.Outcome.{both-done}
use Rattle.nametable_format.specs.Format.{header_length, entry_length, reader_start, number_at, count_of, entry_at, reader_of}
use Rattle.nametable.specs.Answer.{entries_judged, read_outcome}
use Rattle.nametable.proofs.TableLaws.{reader-part, read_table}
use Rattle.nametable_facts.proofs.Rewritten.{judged-read, entries-read}
use Rattle.nametable_differences.specs.Differences.{index_of, has_reader, reader_numbers}
use Rattle.nametable_differences.specs.Internal.{next_reader}

-- the entry at an index of the bytes after a header
abbrev entry_in : List ℕ → ℕ → List ℕ
entry_in bytes k = take entry_length (drop (entry_length * k) bytes)

-- the entry after the first is the one before it of what follows the first
entry-later : (bytes : List ℕ) (k : ℕ) → entry_in bytes (suc k) ≡ entry_in (drop entry_length bytes) k
entry-later bytes k =
    let d : 67 * suc k ≡ 67 + 67 * k = omega arith in
    rw (d, ← drop-drop (67 * k) 67 bytes)

-- entries that are judged good have reader numbers of the least or more
entries_from : (index least left : ℕ) (bytes : List ℕ) (total : ℕ) {n : ℕ} → entries_judged index least left bytes total ≡ done n
    → (k : ℕ) → k < left → least ≤ reader_of (entry_in bytes k)
unfolding entries_judged
entries_from index least zero bytes total e k h = absurd (omega arith)
entries_from index least (suc left) bytes total e zero h = (judged-read least (take entry_length bytes) (both-done _ _ _ e).0.1).rising
entries_from index least (suc left) bytes total e (suc k) h =
    let b = both-done _ _ _ e in
    let first = (judged-read least (take entry_length bytes) b.0.1).rising in
    let later = entries_from (suc index) (suc (reader_of bytes)) left (drop entry_length bytes) total b.1 k (omega arith) in
    rw (entry-later bytes k) (omega (arith, reader-part bytes))

-- and these rise
entries-rise : (index least left : ℕ) (bytes : List ℕ) (total : ℕ) {n : ℕ} → entries_judged index least left bytes total ≡ done n
    → (k l : ℕ) → k < l → l < left → reader_of (entry_in bytes k) < reader_of (entry_in bytes l)
unfolding entries_judged
entries-rise index least zero bytes total e k l h g = absurd (omega arith)
entries-rise index least (suc left) bytes total e k zero h g = absurd (omega arith)
entries-rise index least (suc left) bytes total e zero (suc l) h g =
    let later = entries_from (suc index) (suc (reader_of bytes)) left (drop entry_length bytes) total (both-done _ _ _ e).1 l (omega arith) in
    rw (entry-later bytes l, reader-part bytes) later
entries-rise index least (suc left) bytes total e (suc k) (suc l) h g =
    rw (entry-later bytes k, entry-later bytes l) (entries-rise (suc index) (suc (reader_of bytes)) left (drop entry_length bytes) total (both-done _ _ _ e).1 k l (omega arith) (omega arith))

-- the reader numbers of a whole table rise
pub readers-rise : (t : List ℕ) (n : ℕ) → read_outcome t ≡ done n → (k l : ℕ) → k < l → l < count_of t → reader_of (entry_at t k) < reader_of (entry_at t l)
unfolding entry_at
readers-rise t n read k l h g =
    rw (← drop-drop (67 * k) 3 t, ← drop-drop (67 * l) 3 t)
    (entries-rise 0 0 n (drop header_length t) n (entries-read t n read) k l h (rw (read_table t n read).counted g))

-- a reader number that no entry has
pub reader-absent : (t : List ℕ) (x : ℕ) → ((k : ℕ) → k < count_of t → reader_of (entry_at t k) ≡ x → ⊥) → has_reader t x ≡ false
unfolding has_reader index_of
reader-absent t x none = rw (first-none (count_of t) (λ k. eqb (reader_of (entry_at t k)) x) (λ k h. ne_eqb _ _ (none k h))) (le-ltb (count_of t) (count_of t) (omega arith))

-- one that an entry has, and none before it
pub reader-present : (t : List ℕ) (x i : ℕ) → i < count_of t → reader_of (entry_at t i) ≡ x → ((k : ℕ) → k < i → reader_of (entry_at t k) ≡ x → ⊥) → (has_reader t x ≡ true) × (index_of t x ≡ i)
unfolding has_reader index_of
reader-present t x i h is before =
    let found = first-at (count_of t) (λ k. eqb (reader_of (entry_at t k)) x) i h (eq-eqb _ _ is) (λ k g. ne_eqb _ _ (before k g)) in
    (rw found (lt-ltb i (count_of t) h), found)

-- the reader number of the next entry, and past the last
pub next-inside : (t : List ℕ) (i : ℕ) → i < count_of t → next_reader t i ≡ reader_of (entry_at t i)
unfolding next_reader
next-inside t i h = rw (lt-ltb i (count_of t) h)

pub next_past : (t : List ℕ) (i : ℕ) → count_of t ≤ i → next_reader t i ≡ reader_numbers
unfolding next_reader
next_past t i h = rw (le-ltb i (count_of t) h)

-- the entries before an index have reader numbers below m, and those from it on m or more
pub record Split (t : List ℕ) (i m : ℕ) : Type 0 where
  pub inside : i ≤ count_of t
  pub below : (k : ℕ) → k < i → reader_of (entry_at t k) < m
  pub above : (k : ℕ) → i ≤ k → k < count_of t → m ≤ reader_of (entry_at t k)

pub split-start : (t : List ℕ) → Split t 0 0
split-start t = record { inside = omega arith; below = λ k h. absurd (omega arith); above = λ k h g. omega arith }

-- the entry at the split is found by its number
pub split-present : (t : List ℕ) (i m : ℕ) → Split t i m → i < count_of t → (has_reader t (reader_of (entry_at t i)) ≡ true) × (index_of t (reader_of (entry_at t i)) ≡ i)
split-present t i m s h = reader-present t (reader_of (entry_at t i)) i h refl (λ k g e. omega (arith, s.below k g, s.above i (omega arith) h))

-- past the last entry no number from m on is an entry's
pub split-past : (t : List ℕ) (i m : ℕ) → Split t i m → count_of t ≤ i → (x : ℕ) → m ≤ x → has_reader t x ≡ false
split-past t i m s past x low = reader-absent t x (λ k h e. omega (arith, s.below k (omega arith)))

-- a whole table is split after each of its entries
pub split-next : (t : List ℕ) (n : ℕ) → read_outcome t ≡ done n → (i : ℕ) → i < count_of t → Split t (i + 1) (suc (reader_of (entry_at t i)))
split-next t n read i h = record {
  inside = omega arith;
  below = λ k g. by-lt k i (λ l. omega (arith, readers-rise t n read k i l h)) (λ l. let e : k ≡ i = omega arith in rw e (omega arith));
  above = λ k g l. readers-rise t n read i k (omega arith) l;
}

-- of a whole table that is split
module _ (t : List ℕ) (n : ℕ) (read : read_outcome t ≡ done n) (i m : ℕ) (s : Split t i m) where
  -- the number of the next entry is at most that of each after it
  next-least : (k : ℕ) → i ≤ k → k < count_of t → next_reader t i ≤ reader_of (entry_at t k)
  next-least k h g =
      by-lt i k (λ l. omega (arith, next-inside t i (omega arith), readers-rise t n read i k l g))
      (λ l. let e : k ≡ i = omega arith in rw e (omega (arith, next-inside t i (omega arith))))

  -- the split may be at any number up to the next entry's
  pub split-up : (x : ℕ) → m ≤ x → x ≤ next_reader t i → Split t i x
  split-up x low high = record {
    inside = s.inside;
    below = λ k h. omega (arith, s.below k h);
    above = λ k h g. omega (arith, next-least k h g);
  }

  -- and none of the numbers before it is an entry's
  pub split-absent : (x : ℕ) → m ≤ x → x < next_reader t i → has_reader t x ≡ false
  split-absent x low high = reader-absent t x (λ k h e. by-lt k i (λ l. omega (arith, s.below k l)) (λ l. omega (arith, next-least k l h)))

-- the two bytes in a table that are the reader number of an entry
pub next-read : (t : List ℕ) (i : ℕ) → i < count_of t → number_at t (header_length + entry_length * i + reader_start) ≡ next_reader t i
unfolding entry_at reader_of number_at
next-read t i h =
    let k = header_length + entry_length * i in
    let after : suc (k + 1) ≡ k + 2 = omega arith in
    sym (next-inside t i h ∙ reader-part (drop k t) ∙ rw (get_or-drop k t 1 0, get_or-drop k t 2 0, after))
