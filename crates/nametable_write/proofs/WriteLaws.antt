-- Laws on writing a table: the room, the rows and the entries in their turn, and what is left in the
-- buffer.
use Prim.Native.Nat.{ℕ, ◌≤◌}
use mathlib.Core.Path.{◌≡◌, sym, ap, ◌∙◌}
use mathlib.Core.Bool.{Bool, true, false}
use mathlib.Core.List.{List, ◌∷◌, ◌++◌}
use lib.Dec.{ltb}
use lib.ListN.{length, drop}
use lib.Seq.{sets}
use borrow.Author.Tests.{ltb-false}
use native.Mathlib.Omega.{arith}
use Rattle.std.proofs.Common.{Option, Some, None, Result, Ok}
use Rattle.basis.specs.Outcome.{Outcome, done, refused, outcome_by, bytes_outcome, buffer_after}
use Rattle.basis.specs.declared.ByteCount.{ByteCount}
use Rattle.basis.specs.declared.Refusal.{Refusal}
use Rattle.basis.proofs.Lists.{sets-front}
use Rattle.basis.proofs.Outcome.{stop-given, pass-given, done-leaves}
use Rattle.basis.proofs.Stores.{Stored}
use Rattle.nametable_format.specs.Format.{header_kind, header_length, table_length}
use Rattle.nametable_write.specs.Writing.{entries_written, write_outcome, number_bytes, entries_bytes, table_of}
use Rattle.nametable_write.specs.Internal.{AllSpelled}
use Rattle.nametable_write.specs.Tested.{Tested, entries_in}
use Rattle.nametable_write.specs.declared.entry_list.EntryList.{EntryList}
use Rattle.nametable_write.proofs.ListLaws.{left-count}
use Rattle.nametable_write.proofs.StoreLaws.{table-long, all-spelled, written-total, table-stored}

module _ (readers schemes lengths points : List ℕ) where
  -- a list that was found: its tests are passed, and it has the readers and the entries of the rows
  pub list-passed : {found : Option EntryList} {list : EntryList} → Tested readers schemes lengths points found → found ≡ Some list → Tested readers schemes lengths points (Some list)
  list-passed is e = rw e at is

  -- the tests in their turn
  module _ (capacity : ℕ) {lacks : Bool} (tested : lacks ≡ ltb capacity (table_length (length readers))) where
    pub no_room : lacks ≡ true → write_outcome capacity readers schemes lengths points ≡ refused 1 0
    unfolding write_outcome
    no_room e = stop-given 1 0 _ lacks _ tested e

    module _ (room : lacks ≡ false) where
      pub has_room : table_length (length readers) ≤ capacity
      has_room = ltb-false capacity (table_length (length readers)) (sym tested ∙ room)

      module _ {found : Option EntryList} (is : Tested readers schemes lengths points found) where
        pub no-list : found ≡ None → write_outcome capacity readers schemes lengths points ≡ refused 14 0
        unfolding write_outcome
        no-list e = pass-given 1 0 _ lacks _ tested room ∙ (rw e at is) _

        pub entries-decide : {list : EntryList} → found ≡ Some list
            → write_outcome capacity readers schemes lengths points ≡ entries_written 0 0 (entries_in list) (table_length (length list.readers.now))
        unfolding write_outcome
        entries-decide e = let l = list-passed is e in pass-given 1 0 _ lacks _ tested room ∙ l.0 _ ∙ rw (← l.2, l.1)

-- the entries of a list that were judged good: their table, stored after its header, is what is left
-- in the buffer
module _ (list : EntryList) (old : List ℕ) (room : table_length (length list.readers.now) ≤ length old) (answer : Result ByteCount Refusal) {n : ByteCount}
    (judges : bytes_outcome answer ≡ entries_written 0 0 (entries_in list) (table_length (length list.readers.now))) (good : answer ≡ Ok n) where
  judged-done : entries_written 0 0 (entries_in list) (table_length (length list.readers.now)) ≡ done n.0
  unfolding outcome_by
  judged-done = sym judges ∙ ap bytes_outcome good

  pub judged-spelled : AllSpelled (entries_in list)
  judged-spelled = all-spelled 0 0 (entries_in list) _ judged-done

  pub table-left : {outcome : Outcome} {headed now : List ℕ} → outcome ≡ entries_written 0 0 (entries_in list) (table_length (length list.readers.now))
      → headed ≡ sets old 0 (header_kind ∷ number_bytes (length list.readers.now)) → Stored headed header_length (entries_bytes (entries_in list)) now (table_length (length list.readers.now))
      → (bytes_outcome (Ok n) ≡ outcome) × (now ≡ buffer_after outcome (table_of (entries_in list)) old)
  table-left {now = now} is heads stores =
      let es = entries_in list in
      let long : length (table_of es) ≡ table_length (length list.readers.now) = omega (arith, table-long es judged-spelled, left-count list) in
      let total : n.0 ≡ table_length (length list.readers.now) = written-total 0 0 es (table_length (length list.readers.now)) judged-done in
      let stored = table-stored list old heads stores in
      let leaves : now ≡ table_of es ++ drop (table_length (length list.readers.now)) old
      = rw (← long) (stored.stores ∙ sets-front (table_of es) old (omega (arith, long, room))) in
      (ap bytes_outcome (sym good) ∙ judges ∙ sym is, (done-leaves _ (table_of es) old now _ (is ∙ judged-done ∙ ap done total) leaves).1)
