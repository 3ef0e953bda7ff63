-- Laws on one short entry: its kind, where it ends, and the long entry that it stands for.
use Prim.Native.Nat.{ℕ, ◌+◌, ◌-◌, ◌≤◌, ◌<◌}
use mathlib.Core.Path.{◌≡◌, refl, sym, ap, ◌∙◌}
use mathlib.Core.Bool.{Bool, true, false}
use mathlib.Core.Logic.{◌⊎◌, inl, inr, ⊎_elim}
use mathlib.Core.List.{List, [], ◌∷◌, ◌++◌, append-nil}
use lib.Dec.{eqb}
use lib.ListN.{length, take, drop, set, length-drop, drop_of_length-le}
use lib.Seq.{take_all, length-take-le, get_or-take, take-append_seam, get_or-drop, drop-drop, sets, length-sets}
use borrow.Author.Tests.{eq-eqb, ne_eqb, le-leb, lt-leb, eqb-true, eqb-false}
use native.Mathlib.Omega.{arith}
use Rattle.basis.specs.Tests.{every, within}
use Rattle.basis.specs.Rows.{at, tabulate}
use Rattle.basis.proofs.Tests.{cases, by-lt, true-not-false, within-true, within-below, within-above, each_at, at_each}
use Rattle.basis.proofs.Lists.{at-past, length-tabulate, at-tabulate, fill_more, sets-front}
use Rattle.basis.proofs.Parts.{part-is, part-back}
use Rattle.scheme.specs.Naming.{own_number_names, kind_names, scheme_named}
use Rattle.scheme.specs.Naming as naming
use Rattle.nametable_format.specs.Format.{entry_length, length_start, label_capacity, label_start, number_at, kind_of, reader_of, length_of, is_filled, scheme_in}
use Rattle.nametable_short_format.specs.Format.{scheme_start, short_length_start, short_label_start, room_of, fewest_of, kind_for, short_length, first_entry, after_first, fitted, kind_named, long_of, short_of, filled_by}

-- so many bytes of label make one of three kinds
pub by_size : (P : ℕ → Type 0) (n : ℕ) → (n ≤ 16 → P 0x51) → (16 < n → n ≤ 32 → P 0x52) → (32 < n → P 0x53) → P (kind_for n)
unfolding kind_for
by_size P n small middle large =
    by-lt 16 n
    (λ over. by-lt 32 n
    (λ far. rw (lt-leb n 16 over, lt-leb n 32 far) (large far))
    (λ near. rw (lt-leb n 16 over, le-leb n 32 near) (middle over near)))
    (λ under. rw (le-leb n 16 under) (small under))

-- any kind is one of the three, or none of them
pub by_kind : (P : ℕ → Type 0) (kind : ℕ) → P 0x51 → P 0x52 → P 0x53 → ((kind ≡ 0x51 → ⊥) → (kind ≡ 0x52 → ⊥) → (kind ≡ 0x53 → ⊥) → P kind) → P kind
by_kind P kind small middle large none =
    cases (eqb kind 0x51) (λ a. rw (eqb-true kind 0x51 a) small)
    (λ a. cases (eqb kind 0x52) (λ b. rw (eqb-true kind 0x52 b) middle)
    (λ b. cases (eqb kind 0x53) (λ c. rw (eqb-true kind 0x53 c) large) (λ c. none (eqb-false kind 0x51 a) (eqb-false kind 0x52 b) (eqb-false kind 0x53 c))))

-- no kind has more room than a long entry
pub room_small : (kind : ℕ) → room_of kind ≤ label_capacity
unfolding room_of
room_small kind =
    by_kind (λ k. room_of k ≤ label_capacity) kind (omega arith) (omega arith) (omega arith)
    (λ a b c. rw (ne_eqb kind 0x51 a, ne_eqb kind 0x52 b, ne_eqb kind 0x53 c) (omega arith))

-- the kind for so many bytes has room for them
pub kind-room : (n : ℕ) → n ≤ label_capacity → n ≤ room_of (kind_for n)
unfolding room_of
kind-room n h = by_size (λ k. n ≤ room_of k) n (λ a. omega arith) (λ a b. omega arith) (λ a. omega arith)

pub kind-some : (n : ℕ) → 16 ≤ room_of (kind_for n)
unfolding room_of
kind-some n = by_size (λ k. 16 ≤ room_of k) n (λ a. omega arith) (λ a b. omega arith) (λ a. omega arith)

-- two ranges agree on a number that is in both or in neither
same-range : (low high from to n : ℕ) → (from ≤ n → n ≤ to → (low ≤ n) × (n ≤ high)) → (n < from → (n < low) ⊎ (high < n)) → (to < n → (n < low) ⊎ (high < n))
    → within low high n ≡ within from to n
same-range low high from to n inside before after =
    by-lt n from
    (λ h. outside (before h) ∙ sym (within-below from to n h))
    (λ l. by-lt to n
    (λ h. outside (after h) ∙ sym (within-above from to n h))
    (λ h. within-true low high n (inside l h).0 (inside l h).1 ∙ sym (within-true from to n l h)))
  where
    outside : (n < low) ⊎ (high < n) → within low high n ≡ false
    outside = ⊎_elim (λ h. within-below low high n h) (λ h. within-above low high n h)

-- the kind for so many bytes allows them exactly if they are 1 to 63
pub kind-allows : (n : ℕ) → within (fewest_of (kind_for n)) (room_of (kind_for n)) n ≡ within 1 label_capacity n
unfolding room_of fewest_of
kind-allows n =
    by_size (λ k. within (fewest_of k) (room_of k) n ≡ within 1 label_capacity n) n
    (λ a. same-range 1 16 1 63 n (λ l h. (l, a)) (λ h. inl h) (λ h. absurd (omega arith)))
    (λ a b. same-range 17 32 1 63 n (λ l h. (a, b)) (λ h. inl (omega arith)) (λ h. absurd (omega arith)))
    (λ a. same-range 33 63 1 63 n (λ l h. (a, h)) (λ h. inl (omega arith)) (λ h. inr h))

-- a kind that is not the one for so many bytes does not allow them
pub other-kind-refuses : (kind n : ℕ) → (kind_for n ≡ kind → ⊥) → within (fewest_of kind) (room_of kind) n ≡ false
unfolding room_of fewest_of kind_for
other-kind-refuses kind n =
    by_kind (λ k. (kind_for n ≡ k → ⊥) → within (fewest_of k) (room_of k) n ≡ false) kind
    (λ other. by-lt 16 n (λ h. within-above 1 16 n h) (λ h. absurd (other (rw (le-leb n 16 h)))))
    (λ other. by-lt 16 n
    (λ l. by-lt 32 n (λ h. within-above 17 32 n h) (λ h. absurd (other (rw (lt-leb n 16 l, le-leb n 32 h)))))
    (λ l. within-below 17 32 n (omega arith)))
    (λ other. by-lt 32 n (λ l. absurd (other (rw (lt-leb n 16 (omega arith), lt-leb n 32 l)))) (λ h. within-below 33 63 n (omega arith)))
    (λ a b c _. rw (ne_eqb kind 0x51 a, ne_eqb kind 0x52 b, ne_eqb kind 0x53 c) (by-lt 0 n (λ h. within-above 33 0 n h) (λ h. within-below 33 0 n (omega arith))))

-- the parts of the long entry that a short one stands for
module _ (e : List ℕ) where
  pub long-length : length_of (long_of e) ≡ at e short_length_start
  unfolding length_of long_of
  long-length = refl

  pub long-reader : reader_of (long_of e) ≡ reader_of e
  unfolding reader_of number_at long_of
  long-reader = refl

  pub long-at : (i : ℕ) → i < label_capacity → at (long_of e) (label_start + i) ≡ at e (short_label_start + i)
  unfolding long_of fitted
  long-at i h =
      sym (get_or-drop label_start (long_of e) i 0) ∙ at-tabulate label_capacity (at (drop short_label_start e)) i h ∙ get_or-drop short_label_start e i 0

-- a test that holds at every number from m on holds throughout exactly if it does below m
every_more : (m n : ℕ) (test : ℕ → Bool) → m ≤ n → ((k : ℕ) → m ≤ k → k < n → test k ≡ true) → every m test ≡ every n test
every_more m n test few more =
    cases (every m test)
    (λ e. e ∙ sym (each_at n test (λ k h. by-lt k m (λ l. at_each m test e k l) (λ l. more k l h))))
    (λ e. cases (every n test) (λ f. absurd (true-not-false (each_at m test (λ k h. at_each n test f k (omega arith))) e)) (λ f. e ∙ sym f))

-- the filling of the long entry is zero exactly if that of the short one's room is
pub long_filled : (e : List ℕ) (room : ℕ) → length e ≡ short_label_start + room → room ≤ label_capacity → length_of (long_of e) ≤ room → is_filled room (long_of e) ≡ is_filled label_capacity (long_of e)
unfolding is_filled
long_filled e room long small h =
    let n = length_of (long_of e) in
    every_more (room - n) (63 - n) (λ i. eqb (at (long_of e) (4 + n + i)) 0) (omega arith)
    (λ k l g.
    let i : 4 + n + k ≡ 4 + (n + k) = omega arith in
    eq-eqb (at (long_of e) (4 + n + k)) 0 (rw i (long-at e (n + k) (omega arith) ∙ at-past e (5 + (n + k)) (omega arith))))

-- the short entry that begins at a byte of the table ends before another
pub record EndsAt (t : List ℕ) (start end : ℕ) : Type 0 where
  pub after : drop end t ≡ after_first (drop start t)
  pub entry : take (end - start) (drop start t) ≡ first_entry (drop start t)
  pub inside : end ≤ length t
  pub rising : start ≤ end

-- where the entry that begins at a byte of a table ends
module _ (t : List ℕ) (start : ℕ) {kind room : ℕ} (is : kind ≡ at t start) (has : room ≡ room_of kind) where
  pub length-here : short_length (kind_of (drop start t)) ≡ short_label_start + room
  unfolding short_length kind_of
  length-here = let i : start + 0 ≡ start = omega arith in rw (get_or-drop start t 0 0, i, has, is)

  pub ends-with-table : start ≤ length t → length t - start < short_label_start + room → EndsAt t start (length t)
  unfolding after_first first_entry
  ends-with-table inside h =
      let left : length (drop start t) ≡ length t - start = length-drop start t in record {
        after = drop_of_length-le t {i = length t} (omega arith) ∙ sym (drop_of_length-le (drop start t) {i = short_length (kind_of (drop start t))} (omega (arith, length-here, left)));
        entry = take_all (length t - start) (drop start t) (omega (arith, left)) ∙ sym (take_all (short_length (kind_of (drop start t))) (drop start t) (omega (arith, length-here, left)));
        inside = omega arith;
        rising = inside;
      }

  pub ends-by-kind : start ≤ length t → short_label_start + room ≤ length t - start → EndsAt t start (start + (short_label_start + room))
  unfolding after_first first_entry
  ends-by-kind inside h =
      let n : start + (5 + room) - start ≡ 5 + room = omega arith in record {
        after = rw (length-here, drop-drop (5 + room) start t);
        entry = rw (length-here, n);
        inside = omega arith;
        rising = omega arith;
      }

  -- as it is told by its length
  pub end-with-table : start ≤ length t → length t - start < short_label_start + room → length t ≡ start + length (first_entry (drop start t))
  unfolding first_entry
  end-with-table inside h =
      let left = length-drop start t in
      omega (arith, ap length (take_all (short_length (kind_of (drop start t))) (drop start t) (omega (arith, length-here, left))), left)

  pub end-by-kind : start ≤ length t → short_label_start + room ≤ length t - start → start + (short_label_start + room) ≡ start + length (first_entry (drop start t))
  unfolding first_entry
  end-by-kind inside h =
      omega (arith, length-take-le (short_length (kind_of (drop start t))) (drop start t) (omega (arith, length-here, length-drop start t)), length-here)

pub end-past : (t : List ℕ) (start : ℕ) → length t < start → start ≡ start + length (first_entry (drop start t))
unfolding first_entry
end-past t start h =
    let none = length-drop start t in
    omega (arith, ap length (take_all (short_length (kind_of (drop start t))) (drop start t) (omega (arith, none))), none)

pub ends_at : (t : List ℕ) (start end : ℕ) → start ≤ length t → end ≡ start + length (first_entry (drop start t)) → EndsAt t start end
ends_at t start end inside is =
    by-lt (length t - start) (short_label_start + room_of (at t start))
    (λ h. let e : end ≡ length t = is ∙ sym (end-with-table t start refl refl inside h) in rw e (ends-with-table t start refl refl inside h))
    (λ h. let e : end ≡ start + (short_label_start + room_of (at t start)) = is ∙ sym (end-by-kind t start refl refl inside h) in rw e (ends-by-kind t start refl refl inside h))

-- a room filled from the front with the bytes from an index on: at the start, one byte more, and to
-- the end
module _ (bytes : List ℕ) (start : ℕ) where
  pub fitted_none : (old : List ℕ) → old ≡ tabulate 0 (at (drop start bytes)) ++ drop 0 old
  unfolding tabulate
  fitted_none old = refl

  pub fitted-more : (now old : List ℕ) (i : ℕ) {x : ℕ} → i < length old → x ≡ at bytes (start + i) → now ≡ tabulate i (at (drop start bytes)) ++ drop i old
      → set now i x ≡ tabulate (i + 1) (at (drop start bytes)) ++ drop (i + 1) old
  fitted-more now old i h is e = fill_more now old (at (drop start bytes)) i _ h (is ∙ sym (get_or-drop start bytes i 0)) e

  pub fitted-all : (now old : List ℕ) (i : ℕ) → i ≤ length old → length old ≤ i → now ≡ tabulate i (at (drop start bytes)) ++ drop i old
      → now ≡ fitted (length old) (drop start bytes)
  unfolding fitted
  fitted-all now old i h g e =
      let n : i ≡ length old = omega arith in
      e ∙ rw (drop_of_length-le old g) (append-nil _ ∙ ap (λ (k : ℕ). tabulate k (at (drop start bytes))) n)

-- the bytes before the room, stored first, and the room filled behind them
module _ (front old now : List ℕ) (k : ℕ) (size : length front ≡ k) (fits : k ≤ length old) (is : now ≡ sets old 0 front) where
  stored-front : take k now ≡ front
  stored-front = rw (is, ← size) (ap (take (length front)) (sets-front front old (omega arith)) ∙ take-append_seam front (drop (length front) old))

  pub room-long : length (take (length now - k) (drop k now)) ≡ length old - k
  room-long = ap length (part-is k now) ∙ length-drop k now ∙ rw (is, length-sets old 0 front)

  fitted-behind : (part bytes : List ℕ) → part ≡ fitted (length (take (length now - k) (drop k now))) bytes
      → take k now ++ (part ++ drop (length now - k) (drop k now)) ≡ front ++ fitted (length old - k) bytes
  fitted-behind part bytes fills = part-back k now part ∙ rw (stored-front, fills, room-long)

-- the long entry that a short one stands for, as it is stored
pub long-stored : (e old now part : List ℕ) {number kind high low n : ℕ} → length old ≡ entry_length
    → number ≡ at e scheme_start → kind ≡ kind_named (own_number_names number) → high ≡ at e 1 → low ≡ at e 2 → n ≡ at e short_length_start
    → now ≡ sets old 0 (kind ∷ high ∷ low ∷ n ∷ []) → part ≡ fitted (length (take (length now - label_start) (drop label_start now))) (drop short_label_start e)
    → take label_start now ++ (part ++ drop (length now - label_start) (drop label_start now)) ≡ long_of e
unfolding long_of
long-stored e old now part {number} {kind} {high} {low} {n} size a b c d f is fills =
    let room : length old - 4 ≡ 63 = omega arith in
    fitted-behind (kind ∷ high ∷ low ∷ n ∷ []) old now 4 refl (omega arith) is part (drop 5 e) fills ∙ rw (room, b, a, c, d, f)

-- the short entry that stands for a long one, as it is stored
pub short-stored : (e old now part : List ℕ) {kind high low named number n : ℕ} → length old ≡ short_length (kind_for (length_of e))
    → n ≡ at e length_start → kind ≡ kind_for n → high ≡ at e 1 → low ≡ at e 2 → named ≡ at e 0 → number ≡ naming.number_of (scheme_named (kind_names named))
    → now ≡ sets old 0 (kind ∷ high ∷ low ∷ number ∷ n ∷ []) → part ≡ fitted (length (take (length now - short_label_start) (drop short_label_start now))) (drop label_start e)
    → take short_label_start now ++ (part ++ drop (length now - short_label_start) (drop short_label_start now)) ≡ short_of e
unfolding short_of short_length length_of scheme_in kind_of
short-stored e old now part {kind} {high} {low} {named} {number} {n} size a b c d f g is fills =
    let room : length old - 5 ≡ room_of (kind_for (at e 3)) = omega arith in
    fitted-behind (kind ∷ high ∷ low ∷ number ∷ n ∷ []) old now 5 refl (omega arith) is part (drop 4 e) fills ∙ rw (room, b, a, c, d, g, f)

-- a short entry is at least as long as what is before its room, and at most one byte longer than a
-- long one
pub short-bounds : (kind n : ℕ) → n ≡ short_length kind → (short_label_start ≤ n) × (n ≤ entry_length + 1)
unfolding short_length
short-bounds kind n is = (omega arith, omega (arith, room_small kind))

-- how long they are
pub long-size : (e : List ℕ) → length (long_of e) ≡ entry_length
unfolding long_of fitted
long-size e = omega (arith, length-tabulate label_capacity (at (drop short_label_start e)))

pub short-size : (e : List ℕ) → length (short_of e) ≡ short_length (kind_for (length_of e))
unfolding short_of short_length fitted
short-size e = omega (arith, length-tabulate (room_of (kind_for (length_of e))) (at (drop label_start e)))

-- the length of the short entry for a long one, by the parts that are computed
pub short-sized : (e : List ℕ) {n kind room : ℕ} → n ≡ at e length_start → kind ≡ kind_for n → room ≡ room_of kind → short_label_start + room ≡ short_length (kind_for (length_of e))
unfolding short_length length_of
short-sized e a b c = rw (c, b, a)

-- a buffer of another length than the bytes is left, and one of theirs holds them
module _ (bytes buffer : List ℕ) where
  pub filled-other : (length buffer ≡ length bytes → ⊥) → buffer ≡ filled_by bytes buffer
  unfolding filled_by
  filled-other other = rw (ne_eqb (length buffer) (length bytes) other)

  pub filled-own : length buffer ≡ length bytes → filled_by bytes buffer ≡ bytes
  unfolding filled_by
  filled-own is = rw (eq-eqb (length buffer) (length bytes) is)

  pub length-filled : length (filled_by bytes buffer) ≡ length buffer
  unfolding filled_by
  length-filled = cases (eqb (length buffer) (length bytes)) (λ e. rw e (sym (eqb-true (length buffer) (length bytes) e))) (λ e. rw e)

-- a buffer of another length than a long entry's is left
pub other_size : (e buffer : List ℕ) → (length buffer ≡ entry_length → ⊥) → filled_by (long_of e) buffer ≡ buffer
other_size e buffer other = sym (filled-other (long_of e) buffer (λ is. other (is ∙ long-size e)))

-- the first entry of some bytes: its kind and reader number are theirs, and it is as long as its kind
-- says where they are long enough
module _ (bytes : List ℕ) where
  pub first_kind : kind_of (first_entry bytes) ≡ kind_of bytes
  unfolding kind_of first_entry short_length
  first_kind = get_or-take (short_length (kind_of bytes)) bytes 0 0 (omega arith)

  pub first-reader : reader_of (first_entry bytes) ≡ reader_of bytes
  unfolding reader_of number_at first_entry short_length
  first-reader = rw (get_or-take (short_length (kind_of bytes)) bytes 1 0 (omega arith), get_or-take (short_length (kind_of bytes)) bytes 2 0 (omega arith))

  pub first-size : short_length (kind_of bytes) ≤ length bytes → length (first_entry bytes) ≡ short_length (kind_of (first_entry bytes))
  unfolding first_entry
  first-size whole = length-take-le (short_length (kind_of bytes)) bytes whole ∙ ap short_length (sym first_kind)
