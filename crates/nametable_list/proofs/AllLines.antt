-- The lines of the entries one behind the other: the start, a line more, and the end; and the
-- listing by the table's verdict.
use Prim.Native.Nat.{ℕ, suc, ◌+◌, ◌*◌, ◌-◌, ◌^◌, ◌≤◌, ◌<◌}
use mathlib.Core.Path.{◌≡◌, refl}
use mathlib.Core.List.{List, ◌++◌}
use lib.ListN.{length, take, drop}
use native.Mathlib.Numerals.{add-one}
use native.Mathlib.Omega.{arith}
use Rattle.std.proofs.Common.{Result, Ok, Err}
use Rattle.basis.specs.Outcome.{done, refused_if, number_of, outcome_by}
use Rattle.basis.specs.declared.Refusal.{Refusal}
use Rattle.nametable.specs.Answer.{table_outcome, header_tests, read_outcome}
use Rattle.nametable.proofs.TableLaws.{read_table}
use Rattle.nametable_facts.proofs.Whole.{judged-entry-found}
use Rattle.report.specs.Digits.{digit_count}
use Rattle.report.specs.Lines.{refused_at_line}
use Rattle.report.specs.Answer.{line_room}
use Rattle.report.proofs.Filling.{Filling, filling-none, filling-more}
use Rattle.report.proofs.DigitLaws.{digits-length, count-few}
use Rattle.report.proofs.LineLaws.{number-length, refused-at-length}
use Rattle.streams.specs.Reading.{believed}
use Rattle.streams.specs.declared.ReadFailed.{ReadFailed}
use Rattle.nametable_list.specs.Listing.{entry_line, entry_lines, listing, listing_after}
use Rattle.nametable_list.specs.Internal.{listing_room}
use Rattle.nametable_list.proofs.EntryLines.{line-fits}

-- the line of a refusal has room, whatever the numbers
pub refusal-fits : (number position : ℕ) → number < 2 ^ 32 → position < 2 ^ 64 → length (refused_at_line number position) ≤ line_room
refusal-fits number position n p =
    let few : (k m : ℕ) → m < 2 ^ k → digit_count 10 m m ≤ k = count-few 10 (omega arith) in
    omega (arith, refused-at-length number position, number-length number, digits-length 10 1 number, few 32 number n, digits-length 10 1 position, few 64 position p)

-- the lines of the first i of so many entries are in front of the output that was old
abbrev pub Listed : List ℕ → ℕ → List ℕ → List ℕ → ℕ → ℕ → Type 0
Listed t total old out at i = Filling total old (entry_lines t i) out at i

pub listed_start : (t : List ℕ) (total : ℕ) (old : List ℕ) → Listed t total old old 0 0
unfolding entry_lines
listed_start t total old = filling-none total old

module _ (t : List ℕ) {total : ℕ} {old out : List ℕ} {at i : ℕ} (l : Listed t total old out at i) where
  -- no entry is left
  pub listed-end : total ≤ i → (at ≡ length (entry_lines t total)) × (out ≡ entry_lines t total ++ drop (length (entry_lines t total)) old)
  listed-end h = let e : i ≡ total = omega (arith, l.within) in (rw e at l.count, rw e at l.front)

  -- the line of the next entry was put behind the others
  pub listed_more : read_outcome t ≡ done total → i < total → (part : List ℕ) → part ≡ entry_line t i ++ drop (length (entry_line t i)) (take (length out - at) (drop at out))
      → (n : ℕ) → n ≡ length (entry_line t i) → Listed t total old (take at out ++ (part ++ drop (length out - at) (drop at out))) (at + n) (i + 1)
  unfolding entry_lines
  listed_more whole h part p n c =
      rw add-one (filling-more l (entry_line t i) part p n c (line-fits t i (judged-entry-found t total i whole h)) (suc i) (omega arith) (omega arith))

-- a table that reads whole has at most 500 entries
pub entries_fit : (t : List ℕ) (total room : ℕ) → read_outcome t ≡ done total → listing_room ≤ room → line_room * total ≤ room
entries_fit t total room e h = let w = read_table t total e in omega (arith, w.counted, w.few)

-- after a failed read the table is refused as cut, whatever was read before
pub failed-listing : (failed : ReadFailed) (bytes : List ℕ) → listing (believed (Err failed) bytes) ≡ refused_at_line 13 0
unfolding listing listing_after read_outcome header_tests refused_if
failed-listing failed bytes = refl

-- the listing, by the table's verdict: what was written for it
module _ (t : List ℕ) (verdict : Result ℕ Refusal) (v : table_outcome verdict ≡ read_outcome t) (old now : List ℕ) (n : ℕ) where
  -- so many bytes, and they are in front
  abbrev Wrote : List ℕ → Type 0
  Wrote bytes = (n ≡ length bytes) × (now ≡ bytes ++ drop (length bytes) old)

  pub listing-whole : (total : ℕ) → verdict ≡ Ok total → Wrote (entry_lines t total) → Wrote (listing t)
  unfolding listing listing_after outcome_by
  listing-whole total g w = rw (← v, g) w

  pub listing-refused : (refusal : Refusal) → verdict ≡ Err refusal → Wrote (refused_at_line (number_of refusal.code) refusal.position) → Wrote (listing t)
  unfolding listing listing_after outcome_by
  listing-refused refusal g w = rw (← v, g) w
