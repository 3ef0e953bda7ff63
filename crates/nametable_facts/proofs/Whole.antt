-- What an entry that is read holds, and that each entry of a table that reads whole is found.
use Prim.Native.Nat.{ℕ, ◌≤◌, ◌<◌}
use mathlib.Core.Path.{◌≡◌, refl, ◌∙◌}
use mathlib.Core.Bool.{false}
use mathlib.Core.List.{List}
use lib.Dec.{ltb}
use lib.ListN.{length, drop, length-drop}
use lib.Seq.{length-take-le}
use borrow.Author.Tests.{ltb-false}
use native.Mathlib.Omega.{arith}
use Rattle.basis.specs.Outcome.{done}
use Rattle.basis.proofs.Outcome.{both-done, passed, done-count}
use Rattle.scheme.specs.Coding.{decode_outcome}
use Rattle.scheme.proofs.Coding.{decoded-short}
use Rattle.nametable_format.specs.Format.{entry_length, label_capacity, label_start, text_capacity, entry_at, length_of, label_in, scheme_in}
use Rattle.nametable.specs.Answer.{length_tests, form_tests, entry_judged, read_outcome, text_in, entry_text, found_outcome, find_outcome, entry_read, lone_entry_outcome, judged_entry_outcome}
use Rattle.nametable.proofs.TableLaws.{read_table, found_here, judged-as-found}

-- the label of a whole entry has as many bytes as its length says
pub label-long : (e : List ℕ) → length e ≡ entry_length → length_of e ≤ label_capacity → length (label_in e) ≡ length_of e
unfolding label_in
label-long e long short = length-take-le (length_of e) (drop label_start e) (omega (arith, length-drop label_start e))

-- an entry that is judged good: its label decodes, so that it has at most 63 points
module _ (fewest room least : ℕ) (e : List ℕ) {n : ℕ} (judged : entry_judged fewest room least e ≡ done n) where
  judged-decodes : (m : ℕ) × (decode_outcome (scheme_in e) text_capacity (label_in e) ≡ done m)
  unfolding entry_judged form_tests
  judged-decodes = (both-done _ _ _ (passed _ _ _ _ _ (passed _ _ _ _ _ (passed _ _ _ _ _ (passed _ _ _ _ _ judged).1).1).1).1).0

  pub judged-short : length (text_in e) ≤ text_capacity
  unfolding text_in
  judged-short = decoded-short (scheme_in e) text_capacity judged-decodes.0 (label_in e) judged-decodes.1

-- an entry that is read by itself is judged good, so that the same holds of it
module _ (least position : ℕ) (e : List ℕ) {n : ℕ} (read : entry_read least position e ≡ done n) where
  read-judged : (m : ℕ) × (entry_judged 1 label_capacity least e ≡ done m)
  unfolding entry_read
  read-judged = (both-done _ _ _ read).0

  pub entry-decodes : (m : ℕ) × (decode_outcome (scheme_in e) text_capacity (label_in e) ≡ done m)
  entry-decodes = judged-decodes 1 label_capacity least e read-judged.1

  pub entry-short : length (text_in e) ≤ text_capacity
  entry-short = judged-short 1 label_capacity least e read-judged.1

  -- it counts the points of its text, for which there is room
  entry-fits : (capacity : ℕ) → ltb capacity text_capacity ≡ false → (n ≡ length (text_in e)) × (n ≤ capacity)
  unfolding entry_read
  entry-fits capacity room =
      let count : n ≡ length (text_in e) = done-count (both-done _ _ _ read).1 refl in
      (count, omega (arith, entry-short, ltb-false capacity text_capacity room))

-- an entry that is found in a judged table is read by itself
pub judged-entry-read : (t : List ℕ) (index capacity : ℕ) {n : ℕ} → judged_entry_outcome t index capacity ≡ done n → entry_read 0 index (entry_at t index) ≡ done n
unfolding judged_entry_outcome
judged-entry-read t index capacity e = (passed _ _ _ _ _ (passed _ _ _ _ _ (passed _ _ _ _ _ (passed _ _ _ _ _ e).1).1).1).1

-- what is found counts the points of the entry's text, for which there is room
pub lone-entry-counts : (least position capacity : ℕ) (e : List ℕ) {n : ℕ} → lone_entry_outcome least position capacity e ≡ done n → (n ≡ length (text_in e)) × (n ≤ capacity)
unfolding lone_entry_outcome length_tests
lone-entry-counts least position capacity e found =
    let room = passed _ _ _ _ _ found in
    entry-fits least position e (passed _ _ _ _ _ (passed _ _ _ _ _ room.1).1).1 capacity room.0

module _ (t : List ℕ) (index capacity n : ℕ) where
  pub judged-entry-counts : judged_entry_outcome t index capacity ≡ done n → (n ≡ length (entry_text t index)) × (n ≤ capacity)
  unfolding judged_entry_outcome
  judged-entry-counts e = entry-fits 0 index (entry_at t index) (judged-entry-read t index capacity e) capacity (passed _ _ _ _ _ e).0

  pub entry-counts : find_outcome t index capacity ≡ done n → (n ≡ length (entry_text t index)) × (n ≤ capacity)
  unfolding find_outcome found_outcome
  entry-counts e =
      let read = (both-done _ _ _ (passed _ _ _ _ _ e).1).0 in
      judged-entry-counts (judged-as-found t read.0 read.1 index capacity ∙ e)

-- each entry of a table that reads whole is found, by either function
module _ (t : List ℕ) (n index : ℕ) (read : read_outcome t ≡ done n) (inside : index < n) (capacity : ℕ) (room : text_capacity ≤ capacity) where
  pub entry_found : find_outcome t index capacity ≡ done (length (entry_text t index))
  unfolding find_outcome
  entry_found = found_here _ _ _ _ _ room read (rw (← (read_table t n read).counted) inside)

  pub judged-entry-found : judged_entry_outcome t index capacity ≡ done (length (entry_text t index))
  judged-entry-found = judged-as-found t n read index capacity ∙ entry_found
