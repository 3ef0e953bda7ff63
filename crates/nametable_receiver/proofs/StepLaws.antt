-- Laws on a step of a receiver, on the bytes of a chunk, and on an entry that is judged.
use Prim.Native.Nat.{ℕ, suc, ◌+◌, ◌-◌, ◌/◌, ◌≤◌, ◌<◌}
use mathlib.Core.Path.{◌≡◌, refl, sym, ap, ◌∙◌}
use mathlib.Core.List.{List}
use lib.ListN.{length, get_or, drop}
use lib.Seq.{drop-cons, drop-length}
use borrow.Author.Tests.{lt-ltb, le-ltb}
use native.Mathlib.Numerals.{add-one}
use native.Mathlib.Omega.{arith}
use Rattle.std.proofs.Common.{Result, Ok, Err}
use Rattle.basis.specs.Outcome.{Outcome, done, and_then, outcome_by}
use Rattle.basis.specs.declared.Refusal.{Refusal}
use Rattle.basis.proofs.Outcome.{refusal-kept, both-done}
use Rattle.nametable_format.specs.Format.{header_length, entry_length, label_capacity, text_capacity, reader_of}
use Rattle.nametable.specs.Answer.{table_outcome, entry_judged, entry_read, lone_entry_outcome, entry_outcome, entry_from}
use Rattle.nametable.specs.declared.ReadEntry.{ReadEntry}
use Rattle.nametable.proofs.TableLaws.{from-refused, from_found, lone-read}
use Rattle.nametable_receiver.specs.Receiving.{State, most_bytes, last_index, headed, stored, judged_with, with_entry, ended, stepped, received}

-- one byte, by what the code tested
module _ (s : State) (b : ℕ) where
  pub stepped-past : most_bytes ≤ s.total → stepped s b ≡ s
  unfolding stepped
  stepped-past h = rw (le-ltb s.total most_bytes h)

  pub stepped-header : s.total < header_length → stepped s b ≡ headed s b
  unfolding stepped
  stepped-header h = rw (lt-ltb s.total most_bytes (omega arith), lt-ltb s.total header_length h)

  module _ (long : header_length ≤ s.total) (few : s.total < most_bytes) where
    pub stepped-stored : s.filled < last_index → stepped s b ≡ stored s b
    unfolding stepped
    stepped-stored h = rw (lt-ltb s.total most_bytes few, le-ltb s.total header_length long, lt-ltb s.filled last_index h)

    pub stepped-ended : last_index ≤ s.filled → stepped s b ≡ ended s b
    unfolding stepped
    stepped-ended h = rw (lt-ltb s.total most_bytes few, le-ltb s.total header_length long, le-ltb s.filled last_index h)

-- the first two by one name
pub ruleset first_steps = (stepped-past, stepped-header)

-- a turn of the loop: what is left of the chunk, from its first byte on
pub received-turn : (s : State) (chunk : List ℕ) (i : ℕ) → i < length chunk → received s (drop i chunk) ≡ received (stepped s (get_or chunk i 0)) (drop (i + 1) chunk)
unfolding received
received-turn s chunk i h = rw (drop-cons chunk i 0 h, add-one i)

pub received-over : (s : State) (chunk : List ℕ) (i : ℕ) → i ≡ length chunk → received s (drop i chunk) ≡ s
unfolding received
received-over s chunk i h = rw (h, drop-length chunk)

-- the verdict on the entries so far, with one more
pub refusal-stays : (judged : Result ℕ Refusal) (entry : Outcome) (index : ℕ) {refusal : Refusal} {r : Result ℕ Refusal} → judged ≡ Err refusal → r ≡ Err refusal
    → table_outcome r ≡ judged_with (table_outcome judged) entry index
unfolding outcome_by judged_with and_then
refusal-stays judged entry index is handed = rw (is, handed)

module _ (judged : Result ℕ Refusal) {n : ℕ} (good : judged ≡ Ok n) (least index capacity : ℕ) (room : text_capacity ≤ capacity) (e : List ℕ) (long : length e ≡ entry_length)
    (one : Result ReadEntry Refusal) (answers : entry_outcome one ≡ entry_from e (lone_entry_outcome least index capacity e)) where
  abbrev verdict : Outcome
  verdict = entry_judged 1 label_capacity least e

  with-one : judged_with (table_outcome judged) verdict index ≡ and_then (λ _. index) verdict (done (index + 1))
  unfolding outcome_by judged_with and_then
  with-one = rw (good, add-one index)

  answers-is : entry_outcome one ≡ entry_from e (entry_read least index e)
  answers-is = answers ∙ ap (entry_from e) (lone-read least index capacity e room long)

  pub entry-refused : {refusal : Refusal} {r : Result ℕ Refusal} → one ≡ Err refusal → r ≡ Err refusal
      → table_outcome r ≡ judged_with (table_outcome judged) verdict index
  unfolding entry_outcome outcome_by entry_read
  entry-refused is handed = rw handed (sym (with-one ∙ refusal-kept _ _ _ _ refl (from-refused _ _ (sym answers-is ∙ ap entry_outcome is))))

  pub entry-good : {entry : ReadEntry} → one ≡ Ok entry
      → table_outcome (Ok (index + 1)) ≡ judged_with (table_outcome judged) verdict index
  unfolding entry_outcome outcome_by entry_read and_then
  entry-good is =
      let q = from_found _ _ (sym answers-is ∙ ap entry_outcome is) in
      let p = (both-done _ _ _ q.0).0 in
      let j : verdict ≡ done p.0 = p.1 in
      sym (with-one ∙ rw j)

-- the state with an entry that is judged, field by field
pub with-entry-is : (s : State) (e : List ℕ) (total least : ℕ) (judged : Outcome) → total ≡ suc s.total → least ≡ suc (reader_of e)
    → judged ≡ judged_with s.judged (entry_judged 1 label_capacity s.least e) ((s.total - header_length) / entry_length)
    → record { header = s.header; current = e; filled = 0; total = total; least = least; judged = judged } ≡ with_entry s e
unfolding with_entry
with-entry-is s e total least judged t l j = rw (t, l, j)
