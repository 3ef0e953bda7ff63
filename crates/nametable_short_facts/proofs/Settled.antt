-- The causes settle what reading a short table, one entry of it, and moving a table to the other
-- form answer: each refuses exactly what it must, in 02's order.
use Prim.Native.Nat.{ℕ, zero, suc, ◌+◌, ◌-◌, ◌≤◌, ◌<◌}
use mathlib.Core.Path.{◌≡◌, refl, sym, ap, ◌∙◌}
use mathlib.Core.Bool.{Bool, true, false, not}
use mathlib.Core.Logic.Iff
use mathlib.Core.Logic.{◌↔◌}
use mathlib.Core.List.{List, []}
use lib.Dec.{eqb, ltb}
use lib.ListN.{length, drop}
use borrow.Author.Tests.{ltb-false, eqb-false, ne_eqb, not-false}
use native.Mathlib.Omega.{arith}
use Rattle.basis.specs.Tests.{within}
use Rattle.basis.specs.Rows.{at}
use Rattle.basis.specs.Outcome.{Outcome, refused, refused_if}
use Rattle.basis.specs.Causes.{Cause, placed, Settles}
use Rattle.basis.proofs.Tests.{by-lt, ltb_iff, eqb-iff, within-below, within_low, within-high, within-from, every-same}
use Rattle.basis.proofs.Outcome.{stop-if, stop-below, pass_below, by-test}
use Rattle.basis.proofs.Causes.{settle-done, settle-if, settle-whole, settle-and_then}
use Rattle.basis.proofs.Codec.{decode-settled}
use Rattle.scheme.specs.Naming.{own_number_names, kind_names, is_known, scheme_named}
use Rattle.scheme.specs.Coding.{codec_of}
use Rattle.scheme.proofs.Coding.{faithful}
use Rattle.nametable_format.specs.Format.{header_length, text_capacity, label_start, count_of, kind_of, reader_of, is_filled, scheme_in}
use Rattle.nametable.specs.Answer.{form_tests, entry_judged}
use Rattle.nametable_write.specs.Writing.{scheme_of}
use Rattle.nametable_facts.proofs.Settled.{outside-iff, some-not, unknown-scheme-iff, header-settled, found-settled, read-settled}
use Rattle.nametable_short_format.specs.Format.{short_header_kind, scheme_start, short_length_start, short_label_start, room_of, fewest_of, short_length, first_entry, after_first, long_of}
use Rattle.nametable_short.specs.Answer.{whole_tests, short_entry_judged, short_entries_judged, short_read_outcome, short_entry_text, short_find_outcome, to_short, to_long, move_outcome, to_short_outcome, to_long_outcome}
use Rattle.nametable_short_format.proofs.EntryLaws.{by_kind, room_small, long-length, long-reader, long-at, first_kind, first-size}
use Rattle.nametable_short_facts.proofs.Forms.{kind-named, long-entry-label}
use Rattle.nametable_short_facts.specs.Causes.{NoShortKind, RoomNotFilled, short_label_in, short_entry_causes, short_entries_causes, short_table_causes, short_find_causes, move_causes, to_short_causes, to_long_causes}

-- two tests with the same refusal may change places
tests-swap : (a b : Bool) (number position : ℕ) (next : Outcome)
    → refused_if a number position (refused_if b number position next) ≡ refused_if b number position (refused_if a number position next)
unfolding refused_if
tests-swap true true number position next = refl
tests-swap true false number position next = refl
tests-swap false b number position next = refl

-- a test for a range is one for the range from 1 on, then one for what is below the first
range_split : (low high n number position : ℕ) (next : Outcome) → 1 ≤ low
    → refused_if (not (within low high n)) number position next ≡ refused_if (not (within 1 high n)) number position (refused_if (ltb n low) number position next)
range_split low high n number position next some =
    by-lt n low
    (λ h. stop-if number position _ _ (ap not (within-below low high n h))
    ∙ sym (by-test (λ o. o ≡ refused number position) _ number position _ (λ _. refl) (λ _. stop-below number position _ n low h)))
    (λ h. rw (pass_below number position next n low h, ← within-from low high n h, ← within-from 1 high n (omega arith)))

-- the room of a kind is one of four
by-room : (P : ℕ → Type 0) → P 0 → P 16 → P 32 → P 63 → (kind : ℕ) → P (room_of kind)
unfolding room_of
by-room P none small middle large kind =
    by_kind (λ k. P (room_of k)) kind small middle large (λ a b c. rw (ne_eqb kind 0x51 a, ne_eqb kind 0x52 b, ne_eqb kind 0x53 c) none)

-- the fewest bytes for a kind are some
pub fewest-some : (kind : ℕ) → 1 ≤ fewest_of kind
unfolding fewest_of
fewest-some kind = by_kind (λ k. 1 ≤ fewest_of k) kind (omega arith) (omega arith) (omega arith) (λ a b c. rw (ne_eqb kind 0x51 a, ne_eqb kind 0x52 b) (omega arith))

-- a kind without room is none of a short entry's
no-kind-iff : (e : List ℕ) → (eqb (room_of (kind_of e)) 0 ≡ true) ↔ NoShortKind e
unfolding room_of
no-kind-iff e =
    Iff.trans (eqb-iff (room_of (kind_of e)) 0)
    (by_kind (λ k. (room_of k ≡ 0) ↔ ((k ≡ 0x51 → ⊥) × (k ≡ 0x52 → ⊥) × (k ≡ 0x53 → ⊥))) (kind_of e)
    (λ z. absurd (omega arith), λ d. absurd (d.0 refl))
    (λ z. absurd (omega arith), λ d. absurd (d.1 refl))
    (λ z. absurd (omega arith), λ d. absurd (d.2 refl))
    (λ a b c. (λ _. (a, b, c), λ _. rw (ne_eqb (kind_of e) 0x51 a, ne_eqb (kind_of e) 0x52 b, ne_eqb (kind_of e) 0x53 c))))

-- a kind with less room holds a label exactly if that has not the fewest bytes for the kind
too-large-iff : (kind n : ℕ) → 1 ≤ room_of kind → 1 ≤ n → (ltb n (fewest_of kind) ≡ true) ↔ ((k : ℕ) × (room_of k < room_of kind) × (n ≤ room_of k))
unfolding room_of fewest_of
too-large-iff kind n some one =
    Iff.trans (ltb_iff n (fewest_of kind))
    (by_kind (λ j. 1 ≤ room_of j → (n < fewest_of j) ↔ ((k : ℕ) × (room_of k < room_of j) × (n ≤ room_of k))) kind
    (λ _. (λ h. absurd (omega arith), λ s. by-room (λ r. r < 16 → n ≤ r → n < 1) (λ h g. omega arith) (λ h g. omega arith) (λ h g. omega arith) (λ h g. omega arith) s.0 s.1 s.2))
    (λ _. (λ h. (0x51, omega arith, omega arith), λ s. by-room (λ r. r < 32 → n ≤ r → n < 17) (λ h g. omega arith) (λ h g. omega arith) (λ h g. omega arith) (λ h g. omega arith) s.0 s.1 s.2))
    (λ _. (λ h. (0x52, omega arith, omega arith), λ s. by-room (λ r. r < 63 → n ≤ r → n < 33) (λ h g. omega arith) (λ h g. omega arith) (λ h g. omega arith) (λ h g. omega arith) s.0 s.1 s.2))
    (λ a b c none. absurd (omega (arith, rw (ne_eqb kind 0x51 a, ne_eqb kind 0x52 b, ne_eqb kind 0x53 c) at none)))
    some)

-- the long entry that a short one stands for: its scheme, its filling
module _ (e : List ℕ) where
  long-named : kind_names (kind_of (long_of e)) ≡ own_number_names (at e scheme_start)
  unfolding kind_of long_of
  long-named = kind-named (own_number_names (at e scheme_start))

  long-scheme : scheme_in (long_of e) ≡ scheme_of (at e scheme_start)
  unfolding scheme_in scheme_of
  long-scheme = ap scheme_named long-named

  long-filling : (i : ℕ) → i < room_of (kind_of e) - at e short_length_start → at (long_of e) (label_start + at e short_length_start + i) ≡ at e (short_label_start + at e short_length_start + i)
  long-filling i h =
      let n = at e short_length_start in
      let l : 4 + n + i ≡ 4 + (n + i) = omega arith in
      let s : 5 + n + i ≡ 5 + (n + i) = omega arith in
      rw (l, s) (long-at e (n + i) (omega (arith, room_small (kind_of e))))

  long-unfilled-iff : (not (is_filled (room_of (kind_of e)) (long_of e)) ≡ true) ↔ RoomNotFilled e
  unfolding is_filled
  long-unfilled-iff =
      let rest = room_of (kind_of e) - at e short_length_start in
      rw (long-length e, every-same rest _ _ (λ i h. ap (λ (b : ℕ). eqb b 0) (long-filling i h))) (some-not rest (λ i. at e (short_label_start + at e short_length_start + i)))

-- one short entry, which is whole and of a short entry's kind: its tests, put into 02's order, are
-- about its own bytes
pub short-entry-settled : (least : ℕ) (e : List ℕ) → length e ≡ short_length (kind_of e) → 1 ≤ room_of (kind_of e)
    → Settles (short_entry_causes least e) (reader_of e) (short_entry_judged least e)
unfolding short_entry_judged entry_judged form_tests
short-entry-settled least e long some =
    let n = at e short_length_start in
    let kind = kind_of e in
    let s = scheme_of (at e scheme_start) in
    rw (
      long-named e,
      long-reader e,
      long-length e,
      long-scheme e,
      tests-swap (not (is_known (own_number_names (at e scheme_start)))) (ltb (reader_of e) least) 14 0 _,
      range_split (fewest_of kind) (room_of kind) n 14 0 _ (fewest-some kind),
    )
    (settle-whole _ 14 (ltb_iff (reader_of e) least)
    (λ _. settle-whole _ 14 (unknown-scheme-iff (at e scheme_start))
    (λ _. settle-whole _ 14 (outside-iff 1 (room_of kind) n)
    (λ inside. settle-whole _ 14 (too-large-iff kind n some (within_low 1 (room_of kind) n (not-false _ inside)))
    (λ _. settle-whole _ 14 (long-unfilled-iff e)
    (λ _. rw (long-entry-label e long (within-high 1 (room_of kind) n (not-false _ inside)))
    (settle-and_then (λ _. 0) _ [] _ _ _ _ (decode-settled (codec_of s) (faithful s) text_capacity (short_label_in e) (omega arith)) (λ _ _. settle-done (reader_of e)))))))))

-- the entries in turn, the table, and one entry by index
short-entries-settled : (index least left : ℕ) (bytes : List ℕ) (total : ℕ)
    → Settles (short_entries_causes index least left bytes) total (short_entries_judged index least left bytes total)
unfolding short_entries_causes short_entries_judged whole_tests
short-entries-settled index least zero bytes total = settle-whole _ 14 (ltb_iff 0 (length bytes)) (λ _. settle-done total)
short-entries-settled index least (suc left) bytes total =
    settle-whole _ 13 (eqb-iff (length bytes) 0)
    (λ _. settle-if _ (placed 14 (λ position. (position ≡ index) × NoShortKind bytes)) index
    (λ e. (refl, (no-kind-iff bytes).0 e)) (λ p h. ((no-kind-iff bytes).1 h.1, h.0))
    (λ known. settle-whole _ 13 (ltb_iff (length bytes) (short_length (kind_of bytes)))
    (λ uncut. settle-and_then (λ _. index) (short_entry_causes least (first_entry bytes)) _ _ total _ _
    (short-entry-settled least (first_entry bytes) (first-size bytes (ltb-false _ _ uncut)) (rw (first_kind bytes) (let some = eqb-false (room_of (kind_of bytes)) 0 known in omega arith)))
    (λ _ _. short-entries-settled (suc index) (suc (reader_of bytes)) left (after_first bytes) total))))

pub short-read-settled : (t : List ℕ) → Settles (short_table_causes t) (count_of t) (short_read_outcome t)
unfolding short_read_outcome
short-read-settled t = header-settled short_header_kind t (short-entries-settled 0 0 (count_of t) (drop header_length t) (count_of t))

pub short-find-settled : (t : List ℕ) (index capacity : ℕ) → Settles (short_find_causes t index capacity) (length (short_entry_text t index)) (short_find_outcome t index capacity)
unfolding short_find_outcome
short-find-settled t index capacity = found-settled (count_of t) index capacity (length (short_entry_text t index)) (short-read-settled t)

-- moving a table, whatever its causes settle
move-settled : {table : List Cause} {n : ℕ} {verdict : Outcome} (needed capacity : ℕ) → Settles table n verdict
    → Settles (move_causes table needed capacity) needed (move_outcome verdict needed capacity)
unfolding move_outcome
move-settled {table} {n} {verdict} needed capacity settled =
    settle-and_then (λ p. p) table _ n needed verdict _ settled (λ _ _. settle-whole _ 1 (ltb_iff capacity needed) (λ _. settle-done needed))

module _ (t : List ℕ) (capacity : ℕ) where
  pub to-short-settled : Settles (to_short_causes t capacity) (length (to_short t)) (to_short_outcome t capacity)
  unfolding to_short_outcome
  to-short-settled = move-settled (length (to_short t)) capacity (read-settled t)

  pub to-long-settled : Settles (to_long_causes t capacity) (length (to_long t)) (to_long_outcome t capacity)
  unfolding to_long_outcome
  to-long-settled = move-settled (length (to_long t)) capacity (short-read-settled t)
