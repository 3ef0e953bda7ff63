-- Laws on the entries of a short table as they are judged: one by itself, and one with those after it.
use Prim.Native.Nat.{ℕ, suc, ◌+◌, ◌-◌, ◌≤◌, ◌<◌}
use mathlib.Core.Path.{◌≡◌, refl, sym, ap, ◌∙◌}
use mathlib.Core.List.{List}
use lib.Dec.{ltb}
use lib.ListN.{length, take, drop, length-drop}
use lib.Seq.{get_or-drop}
use native.Mathlib.Numerals.{add-one}
use native.Mathlib.Omega.{arith}
use Rattle.basis.specs.Rows.{at}
use Rattle.std.proofs.Common.{Result, Ok, Err}
use Rattle.basis.specs.Outcome.{Outcome, done, refused, refused_if, and_then, number_of}
use Rattle.basis.specs.declared.Refusal.{Refusal}
use Rattle.basis.specs.declared.ErrorCode.TheVariants.{Truncated, Malformed}
use Rattle.basis.proofs.Outcome.{stop-equal, pass-equal, stop-below, pass_below, refusal-kept, both-done}
use Rattle.nametable_format.specs.Format.{text_capacity, kind_of, reader_of}
use Rattle.nametable.specs.Answer.{entry_read, lone_entry_outcome, entry_outcome, entry_from}
use Rattle.nametable.specs.declared.ReadEntry.{ReadEntry}
use Rattle.nametable.proofs.TableLaws.{lone-read, from-refused, from_found}
use Rattle.nametable_short_format.specs.Format.{short_length_start, short_label_start, room_of, kind_for, short_length, first_entry, after_first, long_of}
use Rattle.nametable_short_read.specs.Answer.{whole_tests, short_entry_judged, short_entries_judged}
use Rattle.nametable_short_read.specs.Internal.{short_entry_read, Stepped}
use Rattle.nametable_short_read.specs.declared.entries.Judged.{Judged}
use Rattle.nametable_short_format.proofs.EntryLaws.{long-reader, long-size, EndsAt, length-here, ends-by-kind, first-reader, first-size}
use Rattle.nametable_short_read.proofs.VerdictLaws.{other-kind-judged, long-judged}

-- one entry by itself: of another kind than its length asks, or read as the long entry that it
-- stands for
module _ (least position : ℕ) (e : List ℕ) {kind : ℕ} (is : kind ≡ kind_for (at e short_length_start)) where
  pub other-kind-read : (kind ≡ at e 0 → ⊥) → short_entry_read least position e ≡ refused 14 position
  unfolding short_entry_read and_then kind_of
  other-kind-read other = rw (other-kind-judged least e (λ k. other (is ∙ k)))

  pub read-as-long : kind ≡ at e 0 → length e ≡ short_length (kind_of e) → (capacity : ℕ) → text_capacity ≤ capacity
      → lone_entry_outcome least position capacity (long_of e) ≡ short_entry_read least position e
  unfolding short_entry_read entry_read kind_of
  read-as-long k long capacity room = lone-read least position capacity (long_of e) room (long-size e) ∙ rw (long-judged least e (sym is ∙ k) long)

-- the entry that begins at a byte of the table, with those after it, test by test
module _ (t : List ℕ) (start least index : ℕ) where
  abbrev bytes : List ℕ
  bytes = drop start t

  pub no-byte-left : start ≡ length t → Stepped t start least index (Err (record { code = Truncated; position = 0 }))
  unfolding short_entries_judged whole_tests
  no-byte-left h left total = stop-equal 13 0 _ (length bytes) 0 (length-drop start t ∙ omega arith)

  module _ (inside : start ≤ length t) (some : start ≡ length t → ⊥) {kind room : ℕ} (is : kind ≡ at t start) (has : room ≡ room_of kind) where
    kind-here : kind_of bytes ≡ kind
    unfolding kind_of
    kind-here = let i : start + 0 ≡ start = omega arith in get_or-drop start t 0 0 ∙ rw (i, is)

    present : length bytes ≡ 0 → ⊥
    present e = some (omega (arith, length-drop start t))

    pub no-short-kind : room ≡ 0 → Stepped t start least index (Err (record { code = Malformed; position = index }))
    unfolding short_entries_judged whole_tests
    no-short-kind h left total = pass-equal 13 0 _ _ 0 present ∙ stop-equal 14 index _ _ 0 (ap room_of kind-here ∙ sym has ∙ h)

    module _ (known : room ≡ 0 → ⊥) where
      by_whole : (left total : ℕ) → short_entries_judged index least (suc left) bytes total ≡
          refused_if (ltb (length bytes) (short_length (kind_of bytes))) 13 0
          (and_then (λ _. index) (short_entry_judged least (first_entry bytes)) (short_entries_judged (suc index) (suc (reader_of bytes)) left (after_first bytes) total))
      unfolding short_entries_judged whole_tests
      by_whole left total = pass-equal 13 0 _ _ 0 present ∙ pass-equal 14 index _ _ 0 (λ e. known (has ∙ ap room_of (sym kind-here) ∙ e))

      pub not-whole : length t - start < short_label_start + room → Stepped t start least index (Err (record { code = Truncated; position = 0 }))
      not-whole h left total = by_whole left total ∙ stop-below 13 0 _ (length bytes) (short_length (kind_of bytes)) (omega (arith, length-here t start is has, length-drop start t))

      module _ (whole : short_label_start + room ≤ length t - start) where
        abbrev part : List ℕ
        part = take (start + (short_label_start + room) - start) bytes

        ends : EndsAt t start (start + (short_label_start + room))
        ends = ends-by-kind t start is has inside whole

        by-entry : (left total : ℕ) → short_entries_judged index least (suc left) bytes total ≡
            and_then (λ _. index) (short_entry_judged least part) (short_entries_judged (suc index) (suc (reader_of bytes)) left (drop (start + (short_label_start + room)) t) total)
        by-entry left total =
            by_whole left total ∙ pass_below 13 0 _ (length bytes) (short_length (kind_of bytes)) (omega (arith, length-here t start is has, length-drop start t)) ∙ rw (ends.entry, ends.after)

        pub part-whole : length part ≡ short_length (kind_of part)
        part-whole = rw ends.entry (first-size bytes (omega (arith, length-here t start is has, length-drop start t)))

        module _ (judged : Result ReadEntry Refusal) (judges : entry_outcome judged ≡ entry_from (long_of part) (short_entry_read least index part)) where
          pub step-refused : {refusal : Refusal} → judged ≡ Err refusal → Stepped t start least index (Err refusal)
          unfolding entry_outcome short_entry_read
          step-refused told left total = by-entry left total ∙ refusal-kept _ _ _ _ refl (from-refused _ _ (sym judges ∙ ap entry_outcome told))

          pub step-good : {entry : ReadEntry} → judged ≡ Ok entry
              → Stepped t start least index (Ok (record { reader = entry.reader; end = start + (short_label_start + room) }))
          unfolding entry_outcome short_entry_read and_then
          step-good {entry} told =
              let found = from_found _ _ (sym judges ∙ ap entry_outcome told) in
              let good = (both-done _ _ _ found.0).0 in
              let verdict : short_entry_judged least part ≡ done good.0 = good.1 in
              let number : entry.reader ≡ reader_of bytes = found.1 ∙ long-reader part ∙ ap reader_of ends.entry ∙ first-reader bytes in
              (λ left total. by-entry left total ∙ rw (verdict, number), ends.inside)

-- a turn of the loop over the entries, and its end
module _ (t : List ℕ) (count i least start : ℕ) where
  abbrev left : ℕ → Outcome
  left k = short_entries_judged i least k (drop start t) count

  module _ (more : i < count) where
    left_is : left (count - i) ≡ left (suc (count - suc i))
    left_is = let l : count - i ≡ suc (count - suc i) = omega arith in rw l

    pub short-turn-stops : (step : Result Judged Refusal) → Stepped t start least i step → {refusal : Refusal} → step ≡ Err refusal → left (count - i) ≡ refused (number_of refusal.code) refusal.position
    short-turn-stops step s told = left_is ∙ (rw told at s) _ _

    pub short-turn-goes : (step : Result Judged Refusal) → Stepped t start least i step → {judged : Judged} → step ≡ Ok judged
        → (judged.end ≤ length t) × (short_entries_judged (i + 1) (judged.reader + 1) (count - (i + 1)) (drop judged.end t) count ≡ left (count - i))
    short-turn-goes step s {judged} told = ((rw told at s).1, rw (add-one i, add-one judged.reader) (sym (left_is ∙ (rw told at s).0 _ _)))

  pub bytes-left-over : count ≤ i → start < length t → left (count - i) ≡ refused 14 0
  unfolding short_entries_judged
  bytes-left-over h more = let z : count - i ≡ 0 = omega arith in rw z (stop-below 14 0 _ 0 (length (drop start t)) (rw (length-drop start t) (omega arith)))

  pub nothing-left-over : count ≤ i → length t ≤ start → left (count - i) ≡ done count
  unfolding short_entries_judged
  nothing-left-over h none = let z : count - i ≡ 0 = omega arith in rw z (pass_below 14 0 _ 0 (length (drop start t)) (rw (length-drop start t) (omega arith)))
