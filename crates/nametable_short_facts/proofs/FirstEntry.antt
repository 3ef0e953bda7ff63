-- The short entry that some bytes begin with, and the bytes after it.
use Prim.Native.Nat.{ℕ, suc, ◌≤◌}
use mathlib.Core.Path.{◌≡◌, ◌∙◌}
use mathlib.Core.List.{List, ◌++◌}
use lib.ListN.{length, length-append, take-append-drop, get_or-append}
use lib.Seq.{take_at, drop_at}
use native.Mathlib.Omega.{arith}
use Rattle.basis.specs.Outcome.{done}
use Rattle.nametable_format.specs.Format.{number_at, kind_of, reader_of}
use Rattle.nametable_short_format.specs.Format.{room_of, short_length, first_entry, after_first}
use Rattle.nametable_short.specs.Answer.{short_entry_judged, short_entries_judged}
use Rattle.nametable_short_format.proofs.EntryLaws.{first_kind, first-reader, first-size}
use Rattle.nametable_short_read.proofs.TableLaws.{GoodFrom, first_good, first-passed}

-- a whole entry is the first of the bytes that begin with it
module _ (e rest : List ℕ) (long : length e ≡ short_length (kind_of e)) where
  kind-before : kind_of (e ++ rest) ≡ kind_of e
  unfolding kind_of short_length
  kind-before = get_or-append e rest 0 0 (omega (arith, long))

  reader-before : reader_of (e ++ rest) ≡ reader_of e
  unfolding reader_of number_at short_length
  reader-before = rw (get_or-append e rest 0 1 (omega (arith, long)), get_or-append e rest 0 2 (omega (arith, long)))

  pub first-appended : first_entry (e ++ rest) ≡ e
  unfolding first_entry
  first-appended = rw kind-before (take_at e rest (short_length (kind_of e)) long)

  pub after-appended : after_first (e ++ rest) ≡ rest
  unfolding after_first
  after-appended = rw kind-before (drop_at e rest (short_length (kind_of e)) long)

-- some bytes are their first entry and those after it
pub first_then : (bytes : List ℕ) → first_entry bytes ++ after_first bytes ≡ bytes
unfolding first_entry after_first
first_then bytes = take-append-drop (short_length (kind_of bytes)) bytes

-- an entry of a known kind, as long as that says, and good for the least reader number
pub record WholeEntry (least : ℕ) (e : List ℕ) : Type 0 where
  pub known : 1 ≤ room_of (kind_of e)
  pub long : length e ≡ short_length (kind_of e)
  pub judged : (m : ℕ) × (short_entry_judged least e ≡ done m)

-- entries are judged good exactly if the first is whole and those after it are judged good
module _ (index least left total : ℕ) where
  pub entry-taken : (bytes : List ℕ) {n : ℕ} → short_entries_judged index least (suc left) bytes total ≡ done n
      → WholeEntry least (first_entry bytes) × (short_entries_judged (suc index) (suc (reader_of (first_entry bytes))) left (after_first bytes) total ≡ done n)
  entry-taken bytes e =
      let g = first_good index least left bytes total e in
      (record { known = rw (first_kind bytes) g.0.known; long = first-size bytes g.0.whole; judged = g.0.judged }, rw (first-reader bytes) g.1)

  pub entry-put : (e rest : List ℕ) → WholeEntry least e → short_entries_judged index least (suc left) (e ++ rest) total ≡ short_entries_judged (suc index) (suc (reader_of e)) left rest total
  entry-put e rest w =
      let kind = kind-before e rest w.long in
      let g : GoodFrom least (e ++ rest) = record {
        known = rw kind w.known;
        whole = rw kind (omega (arith, w.long, length-append e rest));
        judged = rw (first-appended e rest w.long) w.judged;
      } in
      first-passed index least left (e ++ rest) total g ∙ rw (reader-before e rest w.long, after-appended e rest w.long)
