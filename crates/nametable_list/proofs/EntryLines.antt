-- The line of one entry that is found: its room, and what `nametable::judged_entry` answers and
-- leaves for it.
use Prim.Native.Nat.{ℕ, ◌≤◌}
use mathlib.Core.Path.{◌≡◌}
use mathlib.Core.List.{List}
use lib.ListN.{length, take}
use native.Mathlib.Omega.{arith}
use Rattle.std.proofs.Common.{Result, Ok}
use Rattle.basis.specs.Outcome.{done, buffer_after}
use Rattle.basis.specs.declared.Refusal.{Refusal}
use Rattle.basis.proofs.Outcome.{values-fit, values-long, values-are}
use Rattle.scheme.specs.Naming.{number_of, letter_of}
use Rattle.scheme.proofs.Naming.{same_number}
use Rattle.scheme.proofs.Coding.{decoded-low}
use Rattle.nametable_format.specs.Format.{text_capacity, entry_at, reader_of, scheme_in, label_in}
use Rattle.nametable.specs.Answer.{text_in, entry_text, judged_entry_outcome, entry_outcome, entry_from}
use Rattle.nametable.specs.declared.ReadEntry.{ReadEntry}
use Rattle.nametable_facts.proofs.Whole.{judged-entry-read, entry-decodes, entry-short}
use Rattle.nametable_facts.proofs.JudgedEntry.{answered-parts, answered-count}
use Rattle.report.specs.Lines.{list_line}
use Rattle.report.specs.Answer.{line_room}
use Rattle.report.proofs.Widths.{list-few}
use Rattle.nametable_list.specs.Listing.{entry_line}
use Rattle.nametable_list.specs.Internal.{Found}

module _ (t : List ℕ) (i : ℕ) (found : Found t i) where
  -- the line has room
  pub line-fits : length (entry_line t i) ≤ line_room
  unfolding entry_line text_in
  line-fits =
      let e = entry_at t i in
      let read = judged-entry-read t i text_capacity (found text_capacity (omega arith)) in
      let d = entry-decodes 0 i e read in
      omega (arith, list-few (reader_of e) (letter_of (scheme_in e)) (text_in e) (decoded-low (scheme_in e) text_capacity d.0 (label_in e) d.1), entry-short 0 i e read)

  -- the points' buffer that was old and is now, and what was answered
  module _ (capacity : ℕ) (room : text_capacity ≤ capacity) (answer : Result ReadEntry Refusal) (a : entry_outcome answer ≡ entry_from (entry_at t i) (judged_entry_outcome t i capacity))
      (entry : ReadEntry) (g : answer ≡ Ok entry) (old now : List ℕ)
      (b : now ≡ buffer_after (judged_entry_outcome t i capacity) (entry_text t i) old) where
    parts : (judged_entry_outcome t i capacity ≡ done entry.count.0) × (entry.reader ≡ reader_of (entry_at t i)) × (number_of entry.scheme ≡ number_of (scheme_in (entry_at t i)))
    parts = answered-parts t i capacity (found capacity room) answer a entry g

    counted : entry.count.0 ≡ length (entry_text t i)
    counted = answered-count t i capacity (found capacity room) answer a entry g

    pub points-fit : entry.count.0 ≤ length now
    points-fit = values-fit _ _ _ _ _ parts.0 counted b

    pub points-long : entry.count.0 ≡ length (take entry.count.0 now)
    points-long = values-long _ _ _ _ _ parts.0 counted b

    pub line-is : (letter : ℕ) → letter ≡ letter_of entry.scheme → list_line entry.reader letter (take entry.count.0 now) ≡ entry_line t i
    unfolding entry_line
    line-is letter l = rw (parts.1, l, same_number _ _ parts.2, values-are _ _ _ _ _ parts.0 counted b)
