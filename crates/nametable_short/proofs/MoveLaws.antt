-- Laws on moving a table to the other form: how long the result is, its entries stored one by one, and
-- what is left in the buffer.
use Prim.Native.Nat.{ℕ, zero, suc, ◌+◌, ◌-◌, ◌*◌, ◌≤◌, ◌<◌}
use mathlib.Core.Path.{◌≡◌, refl, sym, ap, ◌∙◌}
use mathlib.Core.List.{List, [], ◌++◌}
use lib.ListN.{length, take, drop, length-append, length-drop}
use lib.Seq.{length-take-le, get_or-take, get_or-drop, drop-drop, sets, length-sets}
use native.Mathlib.Omega.{arith}
use Rattle.basis.specs.Rows.{at}
use Rattle.basis.specs.Outcome.{Outcome, done, refused, and_then, buffer_after}
use Rattle.basis.proofs.Outcome.{stop-below, pass_below, done-leaves}
use Rattle.basis.proofs.Lists.{sets-front}
use Rattle.basis.proofs.Stores.{StoringFrom, Stored, storing-piece, stored-append, stored-part}
use Rattle.nametable_format.specs.Format.{header_kind, header_length, entry_length, length_start, count_of, table_length, entry_at, length_of}
use Rattle.nametable_format.proofs.Parts.{entry-part}
use Rattle.nametable_short_format.specs.Format.{short_header_kind, short_label_start, room_of, kind_for, short_length, first_entry, after_first, long_of, short_of}
use Rattle.nametable_short.specs.Answer.{header_as, short_entries, long_entries, to_short, to_long, move_outcome}
use Rattle.nametable_short_format.proofs.EntryLaws.{EndsAt, long-size, short-size}

-- all is stored, and the index after it is this one
pub storing-done : (old values now : List ℕ) (at : ℕ) → Stored old header_length values now at → Stored old header_length values now (header_length + length values)
storing-done old values now at s = let e : at ≡ header_length + length values = omega (arith, s.count) in rw e at s

-- the short entries of a long table from one on
module _ (t : List ℕ) (count i : ℕ) where
  abbrev pub short_left : List ℕ
  short_left = short_entries (count - i) (drop (table_length i) t)

  pub short_none : count ≤ i → short_left ≡ []
  unfolding short_entries
  short_none h = let z : count - i ≡ 0 = omega arith in rw z

  module _ (more : i < count) where
    pub short-next : short_left ≡ short_of (entry_at t i) ++ short_entries (count - (i + 1)) (drop (table_length (i + 1)) t)
    unfolding short_entries entry_at
    short-next =
        let l : count - i ≡ suc (count - (i + 1)) = omega arith in
        let d : 3 + 67 * (i + 1) ≡ 3 + 67 * i + 67 = omega arith in
        rw (l, d, drop-drop 67 (3 + 67 * i) t)

    pub length-in : length_of (entry_at t i) ≡ at t (table_length i + length_start)
    unfolding length_of entry_at
    length-in = get_or-take 67 (drop (3 + 67 * i) t) 3 0 (omega arith) ∙ get_or-drop (3 + 67 * i) t 3 0

    -- how many bytes the next one has
    pub next-size : {n kind room : ℕ} → n ≡ at t (table_length i + length_start) → kind ≡ kind_for n → room ≡ room_of kind
        → length (short_of (entry_at t i)) ≡ short_label_start + room
    unfolding short_length
    next-size a b c = short-size (entry_at t i) ∙ rw (length-in, ← a, ← b, ← c)

    pub short-turn : (bytes : ℕ) {n kind room : ℕ} → n ≡ at t (table_length i + length_start) → kind ≡ kind_for n → room ≡ room_of kind
        → bytes + length short_left ≡ header_length + length (short_entries count (drop header_length t))
        → bytes + (short_label_start + room) + length (short_entries (count - (i + 1)) (drop (table_length (i + 1)) t)) ≡ header_length + length (short_entries count (drop header_length t))
    short-turn bytes a b c e =
        let l : length short_left ≡ length (short_of (entry_at t i)) + length (short_entries (count - (i + 1)) (drop (table_length (i + 1)) t)) = ap length short-next ∙ length-append (short_of (entry_at t i)) _ in
        omega (arith, l, next-size a b c, e)

    pub next-inside : (old buffer : List ℕ) (from : ℕ) {n kind room : ℕ} → n ≡ at t (table_length i + length_start) → kind ≡ kind_for n → room ≡ room_of kind
        → header_length + length (short_entries count (drop header_length t)) ≤ length old → StoringFrom header_length old (short_entries count (drop header_length t)) buffer from short_left
        → from + (short_label_start + room) ≤ length buffer
    next-inside old buffer from a b c fits s = omega (arith, short-turn from a b c s.count, s.long)

    -- the entry as the part of the table that is read
    abbrev part : List ℕ
    part = take (table_length i + entry_length - table_length i) (drop (table_length i) t)

    part-entry : part ≡ entry_at t i
    unfolding entry_at
    part-entry = entry-part t (table_length i)

    -- the part of the buffer for it, and what that leaves
    module _ {n kind room : ℕ} (a : n ≡ at t (table_length i + length_start)) (b : kind ≡ kind_for n) (c : room ≡ room_of kind) (buffer : List ℕ) (from : ℕ) (fits : from + (short_label_start + room) ≤ length buffer) where
      pub put-short-room : length (take (from + (short_label_start + room) - from) (drop from buffer)) ≡ short_length (kind_for (length_of part))
      put-short-room =
          let m : from + (short_label_start + room) - from ≡ short_label_start + room = omega arith in
          rw (m, part-entry) (length-take-le (short_label_start + room) (drop from buffer) (omega (arith, length-drop from buffer)) ∙ sym (next-size a b c) ∙ short-size (entry_at t i))

      pub put-short-turn : (old piece : List ℕ) → piece ≡ short_of part → StoringFrom header_length old (short_entries count (drop header_length t)) buffer from short_left
          → StoringFrom header_length old (short_entries count (drop header_length t))
          (take from buffer ++ (piece ++ drop (from + (short_label_start + room) - from) (drop from buffer))) (from + (short_label_start + room)) (short_entries (count - (i + 1)) (drop (table_length (i + 1)) t))
      put-short-turn old piece is s =
          let e : piece ≡ short_of (entry_at t i) = is ∙ ap short_of part-entry in
          storing-piece s (short-next ∙ rw e) (stored-part buffer piece from (from + (short_label_start + room)) (rw (e, next-size a b c)) fits)

-- the long entries of a short table from one on
module _ (t : List ℕ) (count i start : ℕ) where
  abbrev pub long_left : List ℕ
  long_left = long_entries (count - i) (drop start t)

  pub long-none : count ≤ i → long_left ≡ []
  unfolding long_entries
  long-none h = let z : count - i ≡ 0 = omega arith in rw z

  pub put-long-turn : i < count → (end : ℕ) → EndsAt t start end → (old buffer piece : List ℕ) (from : ℕ) → piece ≡ long_of (take (end - start) (drop start t)) → from + entry_length ≤ length buffer
      → StoringFrom header_length old (long_entries count (drop header_length t)) buffer from long_left
      → StoringFrom header_length old (long_entries count (drop header_length t))
      (take from buffer ++ (piece ++ drop (from + entry_length - from) (drop from buffer))) (from + entry_length) (long_entries (count - (i + 1)) (drop end t))
  unfolding long_entries
  put-long-turn more end e old buffer piece from is fits s =
      let l : count - i ≡ suc (count - (i + 1)) = omega arith in
      let splits : long_left ≡ piece ++ long_entries (count - (i + 1)) (drop end t) = rw (l, is, e.entry, e.after) in
      storing-piece s splits (stored-part buffer piece from (from + entry_length) (rw (is, long-size (take (end - start) (drop start t)))) fits)

-- so many long entries
pub long-entries-size : (left : ℕ) (bytes : List ℕ) → length (long_entries left bytes) ≡ entry_length * left
unfolding long_entries
long-entries-size zero bytes = refl
long-entries-size (suc left) bytes =
    omega (arith, length-append (long_of (first_entry bytes)) (long_entries left (after_first bytes)), long-size (first_entry bytes), long-entries-size left (after_first bytes))

-- the moved table by the number of its entries
pub short-made : (t : List ℕ) {n : ℕ} → n ≡ count_of t → to_short t ≡ header_as short_header_kind t ++ short_entries n (drop header_length t)
unfolding to_short
short-made t is = rw is

pub long-made : (t : List ℕ) {n : ℕ} → n ≡ count_of t → to_long t ≡ header_as header_kind t ++ long_entries n (drop header_length t)
unfolding to_long
long-made t is = rw is

-- moving a table that is refused, and one that reads whole, given the room
module _ (verdict : Outcome) (needed capacity : ℕ) where
  pub move-refused : {number position : ℕ} → verdict ≡ refused number position → move_outcome verdict needed capacity ≡ refused number position
  unfolding move_outcome and_then
  move-refused e = rw e

  pub move-fits : {n : ℕ} → verdict ≡ done n → needed ≤ capacity → move_outcome verdict needed capacity ≡ done needed
  unfolding move_outcome and_then
  move-fits e room = rw e (pass_below 1 0 _ _ _ room)

-- moving a table that was judged whole: the room, and what is left in the buffer
module _ (verdict : Outcome) {n : ℕ} (whole : verdict ≡ done n) (kind : ℕ) (t entries moved old : List ℕ) (made : moved ≡ header_as kind t ++ entries) {needed : ℕ}
    (is : needed ≡ header_length + length entries) where
  moved-size : length moved ≡ needed
  unfolding header_as
  moved-size = omega (arith, ap length made)

  pub move-no-room : length old < needed → move_outcome verdict (length moved) (length old) ≡ refused 1 0
  unfolding move_outcome and_then
  move-no-room h = rw whole (stop-below 1 0 _ (length old) (length moved) (omega (arith, moved-size)))

  pub moved-left : needed ≤ length old → (headed now : List ℕ) {end : ℕ} → headed ≡ sets old 0 (header_as kind t) → Stored headed header_length entries now end
      → (done needed ≡ move_outcome verdict (length moved) (length old)) × (now ≡ buffer_after (move_outcome verdict (length moved) (length old)) moved old)
  unfolding header_as
  moved-left fits headed now heads stores =
      let outcome : move_outcome verdict (length moved) (length old) ≡ done needed
      = move-fits verdict (length moved) (length old) whole (omega (arith, moved-size)) ∙ ap done moved-size in
      let header : Stored old 0 (header_as kind t) headed header_length = record { stores = heads; count = refl; long = ap length heads ∙ length-sets old 0 (header_as kind t) } in
      let left : now ≡ moved ++ drop needed old
      = rw (← moved-size) ((stored-append header stores).stores ∙ ap (sets old 0) (sym made) ∙ sets-front moved old (omega (arith, moved-size))) in
      (sym outcome, (done-leaves _ moved old now needed outcome left).1)
