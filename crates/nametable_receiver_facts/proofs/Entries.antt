-- Whole entries: the bytes of one are judged at its last, and those of all give the verdict of
-- reading them at once.
use Prim.Native.Nat.{ℕ, zero, suc, ◌+◌, ◌-◌, ◌*◌, ◌/◌, ◌≤◌, ◌<◌}
use mathlib.Core.Path.{◌≡◌, refl, sym, ap, ◌∙◌}
use mathlib.Core.List.{List, [], ◌∷◌, ◌++◌, append-nil}
use lib.ListN.{length, take, drop, length-drop, take-append-drop}
use lib.Seq.{sets, length-take-le, drop-length}
use native.Mathlib.Omega.{arith}
use Rattle.basis.specs.Outcome.{Outcome, done, refused, and_then}
use Rattle.basis.proofs.Lists.{sets-front}
use Rattle.nametable_format.specs.Format.{header_length, most_entries, entry_length, label_capacity, table_length, reader_of}
use Rattle.nametable.specs.Answer.{entry_judged, entries_judged}
use Rattle.nametable.proofs.TableLaws.{reader-part}
use Rattle.nametable_receiver.specs.Receiving.{State, last_index, stored, judged_with, with_entry, ended, stepped, received}
use Rattle.nametable_receiver.proofs.StepLaws.{stepped-stored, stepped-ended}
use Rattle.nametable_receiver_facts.proofs.Later.{refusal-kept-on}

-- one chunk after another is both joined
pub received-append : (s : State) (a b : List ℕ) → received s (a ++ b) ≡ received (received s a) b
unfolding received
received-append s [] b = refl
received-append s (x ∷ a) b = received-append (stepped s x) a b

-- the state after the entry at an index, whose bytes are these
abbrev after_entry : State → List ℕ → ℕ → State
after_entry s e index = record {
  header = s.header;
  current = e;
  filled = 0;
  total = table_length (suc index);
  least = suc (reader_of e);
  judged = judged_with s.judged (entry_judged 1 label_capacity s.least e) index;
}

-- the bytes of an entry from some byte to its last
rest-of-entry : (s : State) (b : ℕ) (p : List ℕ) (index : ℕ) → s.filled + suc (length p) ≡ entry_length → s.total + suc (length p) ≡ table_length (suc index) → index < most_entries
    → received s (b ∷ p) ≡ after_entry s (sets s.current s.filled (b ∷ p)) index
unfolding received stored ended with_entry
rest-of-entry s b [] index f t h =
    let last : s.filled ≡ last_index = omega arith in
    let i : (s.total - header_length) / entry_length ≡ index = omega arith in
    let n : suc s.total ≡ table_length (suc index) = omega arith in
    rw (stepped-ended s b (omega arith) (omega arith) (omega arith), last, i, n)
rest-of-entry s b (x ∷ p) index f t h =
    rw (stepped-stored s b (omega arith) (omega arith) (omega arith))
    (rest-of-entry (stored s b) x p index (omega arith) (omega arith) h)

-- the state is before the entry at an index, and those before it are good
pub record Before (s : State) (index : ℕ) : Type 0 where
  pub none : s.filled ≡ 0
  pub long : length s.current ≡ entry_length
  pub counted : s.total ≡ table_length index
  pub good : s.judged ≡ done index

-- a whole entry is stored over the last one
over : (old new : List ℕ) → length new ≡ length old → sets old 0 new ≡ new
over old new h = sets-front new old (omega arith) ∙ rw (h, drop-length old, append-nil new)

whole-entry : (s : State) (e : List ℕ) (index : ℕ) → Before s index → length e ≡ entry_length → index < most_entries → received s e ≡ after_entry s e index
whole-entry s [] index before n h = absurd (omega arith)
whole-entry s (x ∷ p) index before n h =
    let e : sets s.current s.filled (x ∷ p) ≡ x ∷ p = rw before.none (over s.current (x ∷ p) (n ∙ sym before.long)) in
    rest-of-entry s x p index (omega (arith, before.none)) (omega (arith, before.counted)) h ∙ ap (λ (r : List ℕ). after_entry s r index) e

-- one entry with this verdict, and those after it
entry-then : (s : State) (bytes : List ℕ) (index left count : ℕ) (o : Outcome) → entry_judged 1 label_capacity s.least (take entry_length bytes) ≡ o → s.judged ≡ done index
    → ((after_entry s (take entry_length bytes) index).judged ≡ done (suc index)
    → (received (after_entry s (take entry_length bytes) index) (drop entry_length bytes)).judged
    ≡ entries_judged (suc index) (suc (reader_of (take entry_length bytes))) left (drop entry_length bytes) count)
    → (received (after_entry s (take entry_length bytes) index) (drop entry_length bytes)).judged
    ≡ and_then (λ _. index) o (entries_judged (suc index) (suc (reader_of bytes)) left (drop entry_length bytes) count)
unfolding judged_with and_then
entry-then s bytes index left count (done reader) is good later = rw (← reader-part bytes) (later (rw (good, is)))
entry-then s bytes index left count (refused number position) is good later = refusal-kept-on (after_entry s (take entry_length bytes) index) (drop entry_length bytes) number index (rw (good, is))

-- all entries that are left
pub all-entries : (left index : ℕ) (bytes : List ℕ) (s : State) (count : ℕ) → Before s index → length bytes ≡ entry_length * left → index + left ≡ count → count ≤ most_entries
    → (received s bytes).judged ≡ entries_judged index s.least left bytes count
unfolding entries_judged received
all-entries zero index [] s count before n sum few = before.good ∙ ap done (omega arith)
all-entries zero index (x ∷ bytes) s count before n sum few = absurd (omega arith)
all-entries (suc left) index bytes s count before n sum few =
    let e = take entry_length bytes in
    let long : length e ≡ entry_length = length-take-le entry_length bytes (omega arith) in
    let one : received s bytes ≡ received (after_entry s e index) (drop entry_length bytes)
    = ap (received s) (sym (take-append-drop entry_length bytes)) ∙ received-append s e (drop entry_length bytes)
    ∙ ap (λ (t : State). received t (drop entry_length bytes)) (whole-entry s e index before long (omega arith)) in
    rw one
    (entry-then s bytes index left count (entry_judged 1 label_capacity s.least e) refl before.good
    (λ good. all-entries left (suc index) (drop entry_length bytes) (after_entry s e index) count (record { none = refl; long = long; counted = refl; good = good }) (length-drop entry_length bytes ∙ omega arith) (omega arith) few))
