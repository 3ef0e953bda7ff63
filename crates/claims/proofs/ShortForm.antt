-- What the short form of the name table promises holds.
use Prim.Native.Nat.{ℕ, ◌≤◌, ◌<◌}
use mathlib.Core.Path.{◌≡◌, refl, sym, ap, ◌∙◌}
use mathlib.Core.List.{List}
use lib.ListN.{length, take}
use native.Mathlib.Omega.{arith}
use Rattle.basis.specs.Outcome.{Outcome, done, buffer_after}
use Rattle.basis.proofs.Tests.{by-lt}
use Rattle.basis.proofs.Outcome.{values-are}
use Rattle.scheme.specs.Naming as naming
use Rattle.nametable_format.specs.Format.{text_capacity, count_of, entry_at, reader_of, label_in, scheme_in}
use Rattle.nametable.specs.Answer.{read_outcome, text_in, entry_text, find_outcome, entry_from}
use Rattle.nametable.proofs.TableLaws.{read_table, found-no-room, found-past}
use Rattle.nametable_short_format.specs.Format.{short_entry_at, long_of}
use Rattle.nametable_short.specs.Answer.{short_read_outcome, short_find_outcome, to_short, to_long, move_outcome, to_short_outcome, to_long_outcome}
use Rattle.nametable_short_format.proofs.EntryLaws.{long-reader}
use Rattle.nametable_short.proofs.MoveLaws.{move-fits}
use Rattle.nametable_short_facts.proofs.Moved.{short-reads, long-back, short-entry, short-finds, long-table-size, long-reads, short_back, long-entry, long-finds, own-scheme, own-label, short-longest, move-done}
use Rattle.nametable_short_facts.proofs.Truncation.{short-prefix-truncated, short-prefix-not-found}
use Rattle.claims.specs.ShortForm.{SameEntries, ShortForm}

-- what a move leaves in its bytes is the table in the other form
moved-values : (verdict : Outcome) (values buffer : List ℕ) {bytes : ℕ} → move_outcome verdict (length values) (length buffer) ≡ done bytes
    → take bytes (buffer_after (move_outcome verdict (length values) (length buffer)) values buffer) ≡ values
moved-values verdict values buffer {bytes} e = values-are _ values buffer _ bytes e (move-done _ _ _ e).1 refl

-- a table that is what the move gives is moved, given the room
moves-again : (verdict : Outcome) (values table buffer : List ℕ) {n : ℕ} → verdict ≡ done n → values ≡ table → length table ≤ length buffer
    → (move_outcome verdict (length values) (length buffer) ≡ done (length table))
    × (take (length table) (buffer_after (move_outcome verdict (length values) (length buffer)) values buffer) ≡ table)
moves-again verdict values table buffer read is room =
    let e = move-fits verdict (length values) (length buffer) read (rw is room) ∙ ap (λ (t : List ℕ). done (length t)) is in
    (e, moved-values verdict values buffer e ∙ is)

-- an entry past the last is refused, whatever bytes are taken for it
past-alike : (t : List ℕ) (n index capacity : ℕ) → read_outcome t ≡ done n → n ≤ index → (e f : List ℕ) → entry_from e (find_outcome t index capacity) ≡ entry_from f (find_outcome t index capacity)
unfolding find_outcome entry_from
past-alike t n index capacity read past e f =
    by-lt capacity text_capacity (λ short. rw (found-no-room (read_outcome t) (count_of t) index capacity (length (entry_text t index)) short))
    (λ room. rw (found-past (read_outcome t) (count_of t) index capacity (length (entry_text t index)) room read (rw (← (read_table t n read).counted) past)))

-- a short table and a long one that answer alike, each short entry standing for the long one
same_entries : (short long : List ℕ) (n : ℕ) → short_read_outcome short ≡ done n → read_outcome long ≡ done n
    → ((index capacity : ℕ) → short_find_outcome short index capacity ≡ find_outcome long index capacity)
    → ((index : ℕ) → index < n → long_of (short_entry_at short index) ≡ entry_at long index) → SameEntries short long n
same_entries short long n short_reads long_reads answers entry = record {
  short_reads = short_reads;
  long_reads = long_reads;
  answers = answers;
  alike = λ index capacity.
      rw (answers index capacity)
      (by-lt index n (λ h. ap (λ (e : List ℕ). entry_from e (find_outcome long index capacity)) (entry index h)) (λ past. past-alike long n index capacity long_reads past _ _));
  entry = entry;
  reader = λ index h. sym (long-reader (short_entry_at short index)) ∙ ap reader_of (entry index h);
  scheme = λ index h. own-scheme short n short_reads index h ∙ ap (λ (e : List ℕ). naming.number_of (scheme_in e)) (entry index h);
  label = λ index h. own-label short n short_reads index h ∙ ap label_in (entry index h);
  text = λ index h. ap text_in (entry index h);
}

pub short-form : ShortForm
unfolding to_short_outcome to_long_outcome
short-form = record {
  moves_back = λ table short long bytes e room.
      let read = (move-done _ _ _ e).0 in
      rw (moved-values _ (to_short table) short e) (moves-again _ _ table long (short-reads table read.0 read.1) (long-back table read.0 read.1) (omega arith));
  moves_forth = λ table long short bytes e room.
      let read = (move-done _ _ _ e).0 in
      rw (moved-values _ (to_long table) long e) (moves-again _ _ table short (long-reads table read.0 read.1) (short_back table read.0 read.1) (omega arith));
  moves_to_short = λ table count capacity read. (λ e. (move-done _ _ _ e).2, λ room. move-fits _ _ _ read room);
  moves_to_long = λ table count capacity read.
      let size = long-table-size table count read in
      (λ e. omega (arith, (move-done _ _ _ e).2), λ room. move-fits (short_read_outcome table) (length (to_long table)) capacity read (omega arith) ∙ ap done size);
  short_keeps = λ table short n bytes read e.
      rw (moved-values _ (to_short table) short e) (same_entries (to_short table) table n (short-reads table n read) read (short-finds table n read) (short-entry table n read));
  long_keeps = λ table long n bytes read e.
      rw (moved-values _ (to_long table) long e)
      (same_entries table (to_long table) n read (long-reads table n read) (λ index capacity. sym (long-finds table n read index capacity)) (λ index h. sym (long-entry table n read index h)));
  prefix_read = λ table n k e h. short-prefix-truncated table n k e (omega arith);
  prefix_entry = λ table n k e h index capacity room. short-prefix-not-found table n k e (omega arith) index capacity (omega arith);
  longest = λ table n read. omega (arith, short-longest table n read);
}
