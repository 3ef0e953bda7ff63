-- What is found in a short table counts the points of the entry's text, for which there is room.
use Prim.Native.Nat.{ℕ, ◌≤◌, ◌<◌}
use mathlib.Core.Path.{◌≡◌, refl}
use mathlib.Core.List.{List}
use lib.ListN.{length}
use borrow.Author.Tests.{ltb-false, leb-false}
use native.Mathlib.Omega.{arith}
use Rattle.basis.specs.Outcome.{done}
use Rattle.basis.proofs.Outcome.{both-done, passed, done-count}
use Rattle.nametable_format.specs.Format.{text_capacity, count_of, kind_of}
use Rattle.nametable.specs.Answer.{found_outcome}
use Rattle.nametable_facts.proofs.Whole.{judged-short}
use Rattle.nametable_short_format.specs.Format.{room_of, fewest_of, short_entry_at, long_of}
use Rattle.nametable_short.specs.Answer.{short_entry_judged, short_read_outcome, short_entry_text, short_find_outcome}
use Rattle.nametable_short_read.proofs.TableLaws.{short-read-table}

-- each entry of a short table that reads whole has at most 63 points
short-entry-short : (t : List ℕ) (n index : ℕ) → short_read_outcome t ≡ done n → index < count_of t → length (short_entry_text t index) ≤ text_capacity
unfolding short_entry_at short_entry_judged
short-entry-short t n index read inside =
    let table = short-read-table t n read in
    let entry = short_entry_at t index in
    judged-short (fewest_of (kind_of entry)) (room_of (kind_of entry)) 0 (long_of entry) (table.good index (omega (arith, table.counted))).judged.1

pub short-entry-counts : (t : List ℕ) (index capacity : ℕ) {n : ℕ} → short_find_outcome t index capacity ≡ done n → (n ≡ length (short_entry_text t index)) × (n ≤ capacity)
unfolding short_find_outcome found_outcome
short-entry-counts t index capacity {n} e =
    let room = passed _ _ _ _ _ e in
    let read = both-done _ _ _ room.1 in
    let inside = passed _ _ _ _ _ read.1 in
    let count : n ≡ length (short_entry_text t index) = done-count inside.1 refl in
    let short = short-entry-short t read.0.0 index read.0.1 (leb-false _ _ inside.0) in
    (count, omega (arith, short, ltb-false capacity text_capacity room.0))
