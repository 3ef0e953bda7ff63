-- A table of either form is refused at a position of 500 at most: at 0, or at the index of an entry.
use Prim.Native.Nat.{ℕ, zero, suc, ◌+◌, ◌≤◌}
use mathlib.Core.Path.{◌≡◌, refl}
use mathlib.Core.Bool.{Bool, false}
use mathlib.Core.List.{List}
use lib.ListN.{drop}
use borrow.Author.Tests.{not-false}
use native.Mathlib.Omega.{arith}
use Rattle.basis.specs.Outcome.{Outcome, done, refused, refused_if, and_then}
use Rattle.basis.proofs.Tests.{cases, within-high}
use Rattle.basis.proofs.Outcome.{by-test, done-not-refused}
use Rattle.nametable_format.specs.Format.{header_kind, header_length, most_entries, entry_length, count_of, reader_of}
use Rattle.nametable.specs.Answer.{header_tests, length_tests, entries_judged, read_outcome}
use Rattle.nametable_short_format.specs.Format.{short_header_kind, after_first}
use Rattle.nametable_short.specs.Answer.{whole_tests, short_entries_judged, short_read_outcome}
use Rattle.nametable_differences.specs.Differences.{is_short, verdict_of}

-- a refusal is at a position of at most this one
record Placed (most : ℕ) (outcome : Outcome) : Type 0 where
  low : (number position : ℕ) → outcome ≡ refused number position → position ≤ most

module _ {most : ℕ} where
  placed-done : (count : ℕ) → Placed most (done count)
  placed-done count = record { low = λ number position e. absurd (done-not-refused refl e) }

  placed-refused : (number position : ℕ) → position ≤ most → Placed most (refused number position)
  placed-refused number position small = record { low = λ k p e. let q : position ≡ p = cc in rw (← q) small }

  placed-if : (test : Bool) (number position : ℕ) {next : Outcome} → position ≤ most → (test ≡ false → Placed most next) → Placed most (refused_if test number position next)
  placed-if test number position {next} small later = by-test (Placed most) test number position next (λ _. placed-refused number position small) later

  placed-then : (index : ℕ) (outcome next : Outcome) → index ≤ most → Placed most next → Placed most (and_then (λ _. index) outcome next)
  unfolding and_then
  placed-then index (done count) next small later = later
  placed-then index (refused number position) next small later = placed-refused number index small

  -- the entries from an index on, in either form
  entries-placed : (index least left : ℕ) (bytes : List ℕ) (total : ℕ) → index + left ≤ most → Placed most (entries_judged index least left bytes total)
  unfolding entries_judged
  entries-placed index least zero bytes total h = placed-done total
  entries-placed index least (suc left) bytes total h =
      placed-then index _ _ (omega arith) (entries-placed (suc index) (suc (reader_of bytes)) left (drop entry_length bytes) total (omega arith))

  short-entries-placed : (index least left : ℕ) (bytes : List ℕ) (total : ℕ) → index + left ≤ most → Placed most (short_entries_judged index least left bytes total)
  unfolding short_entries_judged whole_tests
  short-entries-placed index least zero bytes total h = placed-if _ _ _ (omega arith) (λ _. placed-done total)
  short-entries-placed index least (suc left) bytes total h =
      placed-if _ _ _ (omega arith) (λ _. placed-if _ _ _ (omega arith) (λ _. placed-if _ _ _ (omega arith) (λ _.
      placed-then index _ _ (omega arith) (short-entries-placed (suc index) (suc (reader_of bytes)) left (after_first bytes) total (omega arith)))))

-- a header, before what follows
header-placed : (kind : ℕ) (t : List ℕ) {next : Outcome} → (count_of t ≤ most_entries → Placed most_entries next) → Placed most_entries (header_tests kind t next)
unfolding header_tests
header-placed kind t later =
    placed-if _ _ _ (omega arith) (λ _. placed-if _ _ _ (omega arith) (λ _. placed-if _ _ _ (omega arith) (λ _. placed-if _ _ _ (omega arith) (λ counted.
    later (within-high 1 most_entries (count_of t) (not-false _ counted))))))

read-placed : (t : List ℕ) → Placed most_entries (read_outcome t)
unfolding read_outcome length_tests
read-placed t =
    header-placed header_kind t (λ few. placed-if _ _ _ (omega arith) (λ _. placed-if _ _ _ (omega arith) (λ _. entries-placed 0 0 (count_of t) (drop header_length t) (count_of t) (omega arith))))

short-read-placed : (t : List ℕ) → Placed most_entries (short_read_outcome t)
unfolding short_read_outcome
short-read-placed t = header-placed short_header_kind t (λ few. short-entries-placed 0 0 (count_of t) (drop header_length t) (count_of t) (omega arith))

-- a table of either form
pub verdict-placed : (t : List ℕ) (number position : ℕ) → verdict_of t ≡ refused number position → position ≤ most_entries
unfolding verdict_of
verdict-placed t number position e = cases (is_short t) (λ s. (short-read-placed t).low number position (rw s at e)) (λ s. (read-placed t).low number position (rw s at e))
