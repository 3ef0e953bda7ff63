-- What writing a label needs: lengths and stores of groups, items and labels, and the turns of the loops.
use mathlib.Core.Path.{◌≡◌, refl, sym, ap, ◌∙◌}
use mathlib.Core.List.{List, [], ◌∷◌, ◌++◌, map, append_assoc, map-append}
use Prim.Native.Nat.{ℕ, zero, suc, ◌+◌, ◌-◌, ◌*◌, ◌/◌, ◌%◌, ◌^◌, ◌<◌, ◌≤◌, min}
use native.Mathlib.Nat.{zero-add}
use native.Mathlib.Numerals.{add-one}
use native.Mathlib.Omega.{arith}
use lib.Bits.{bit_xor}
use lib.Dec.{eqb}
use lib.ListN.{length, set, drop, length-append, length-map, drop_of_length-le}
use lib.Seq.{sets, drop-cons}
use borrow.Author.Tests.{eq-eqb, ne_eqb}
use Rattle.basis.specs.Rows.{at}
use Rattle.basis.proofs.Tests.{cases, by-lt}
use Rattle.basis.proofs.Stores.{sets_last, Storing, Stored, stored_one, storing-all, storing-piece, storing-none}
use Rattle.altdude.specs.Symbols.{byte_of}
use Rattle.altdude.specs.Encoding.{leading_digits, group_of, item_of, remembered_after, symbols_from, label_of}
use Rattle.altdude.proofs.Digits.{digits_step, digits-none}

-- what comes before the rest does not depend on it
digits_append : (f x : ℕ) (rest : List ℕ) → leading_digits f x rest ≡ leading_digits f x [] ++ rest
unfolding leading_digits
digits_append zero x rest = refl
digits_append (suc f) zero rest = refl
digits_append (suc f) (suc x) rest =
    let d = 16 + suc x % 16 in
    rw (digits_append f (suc x / 16) (d ∷ rest), digits_append f (suc x / 16) (d ∷ []), append_assoc)

group-append : (x : ℕ) (rest : List ℕ) → group_of x rest ≡ group_of x [] ++ rest
unfolding group_of
group-append x rest = rw (digits_append (x / 16) (x / 16) (x % 16 ∷ rest), digits_append (x / 16) (x / 16) (x % 16 ∷ []), append_assoc)

item-append : (m p : ℕ) (rest : List ℕ) → item_of m p rest ≡ item_of m p [] ++ rest
unfolding item_of
item-append m p rest = cases (eqb p 45) (λ e. rw e) (λ e. rw e (group-append (bit_xor p m) rest))

-- the digits one by one, the last first
digits_more : (y : ℕ) → 0 < y → leading_digits y y [] ≡ leading_digits (y / 16) (y / 16) [] ++ ((16 + y % 16) ∷ [])
digits_more y h =
    let e : y / 16 * 16 + y % 16 ≡ y = omega arith in
    rw e at (digits_step (y / 16) (y % 16) [] (omega arith) (λ q. omega arith)) ∙ digits_append (y / 16) (y / 16) ((16 + y % 16) ∷ [])

pub digits-length : (y : ℕ) → 0 < y → length (leading_digits y y []) ≡ length (leading_digits (y / 16) (y / 16) []) + 1
digits-length y h = rw (digits_more y h, length-append)

-- a number has digits exactly if it is not 0
pub digits-some : (y : ℕ) → 0 < length (leading_digits y y []) → 0 < y
digits-some y h = by-lt 0 y (λ p. p) (λ p. absurd (omega (arith, ap length (digits-none y [] (omega arith)))))

pub digits-over : (y : ℕ) → length (leading_digits y y []) ≡ 0 → y ≡ 0
digits-over y h = by-lt 0 y (λ p. absurd (omega (arith, digits-length y p))) (λ p. omega arith)

pub group-length : (x : ℕ) → length (group_of x []) ≡ length (leading_digits (x / 16) (x / 16) []) + 1
unfolding group_of
group-length x = rw (digits_append (x / 16) (x / 16) (x % 16 ∷ []), length-append)

-- a number below 16 ^ k has at most k digits
digits-few : (k y : ℕ) → y < 16 ^ k → length (leading_digits y y []) ≤ k
digits-few zero y h = omega (arith, ap length (digits-none y [] (omega arith)))
digits-few (suc k) y h =
    by-lt 0 y
    (λ p. omega (arith, digits-length y p, digits-few k (y / 16) (omega arith)))
    (λ p. omega (arith, ap length (digits-none y [] (omega arith))))

pub group-short : (x : ℕ) → x < 2 ^ 32 → length (group_of x []) ≤ 8
group-short x h = omega (arith, group-length x, digits-few 7 (x / 16) (omega arith))

-- an item is a hyphen or a group
item-hyphen : (m p : ℕ) → p ≡ 45 → item_of m p [] ≡ 45 ∷ []
unfolding item_of
item-hyphen m p e = rw (eq-eqb p 45 e)

pub item-group : (m p : ℕ) → (p ≡ 45 → ⊥) → item_of m p [] ≡ group_of (bit_xor p m) []
unfolding item_of
item-group m p n = rw (ne_eqb p 45 n)

-- the symbols from a point on are its item and the symbols after it
module _ (t : List ℕ) (m m' i : ℕ) (inside : i < length t) (next : m' ≡ remembered_after m (at t i)) where
  symbols-turn : symbols_from m (drop i t) ≡ item_of m (at t i) [] ++ symbols_from m' (drop (i + 1) t)
  unfolding symbols_from
  symbols-turn = rw (next, drop-cons t i 0, add-one) (item-append m (at t i) _)

  length-turn : length (symbols_from m (drop i t)) ≡ length (item_of m (at t i) []) + length (symbols_from m' (drop (i + 1) t))
  length-turn = rw (symbols-turn, length-append)

  -- a count of the symbols up to the point, and the same up to the next
  pub count_turn : (all n n' : ℕ) → all ≡ n + length (symbols_from m (drop i t)) → n' ≡ n + length (item_of m (at t i) []) → all ≡ n' + length (symbols_from m' (drop (i + 1) t))
  count_turn all n n' inv e = omega (arith, length-turn)

  -- the item stored, and what is left to store
  pub store-turn : (old label : List ℕ) (k : ℕ) → Storing old (label_of t) label k (map byte_of (symbols_from m (drop i t)))
      → {label' : List ℕ} {k' : ℕ} → Stored label k (map byte_of (item_of m (at t i) [])) label' k'
      → Storing old (label_of t) label' k' (map byte_of (symbols_from m' (drop (i + 1) t)))
  store-turn old label k s stored = storing-piece s (rw (symbols-turn, map-append)) stored

-- all symbols are counted and are to be stored
pub count-start : (t : List ℕ) → length (label_of t) ≡ 0 + length (symbols_from 96 t)
unfolding label_of
count-start t = length-map (symbols_from 96 t) byte_of ∙ sym (zero-add (length (symbols_from 96 t)))

pub store-start : (t label : List ℕ) → Storing label (label_of t) label 0 (map byte_of (symbols_from 96 t))
unfolding label_of
store-start t label = storing-all label (label_of t)

-- the item of a point has its place among all symbols
pub item-within : (t : List ℕ) (m i : ℕ) → i < length t → (all n : ℕ) → all ≡ n + length (symbols_from m (drop i t)) → n + length (item_of m (at t i) []) ≤ all
item-within t m i inside all n inv = omega (arith, length-turn t m _ i inside refl)

pub item-fits : (t : List ℕ) (m i : ℕ) → i < length t → (old label : List ℕ) (k : ℕ) → Storing old (label_of t) label k (map byte_of (symbols_from m (drop i t)))
    → k + length (item_of m (at t i) []) ≤ length (label_of t)
item-fits t m i inside old label k s = item-within t m i inside _ k (omega (arith, s.count, length-map (symbols_from m (drop i t)) byte_of))

-- at the end nothing is left
module _ (t : List ℕ) (m i : ℕ) (past : length t ≤ i) where
  symbols-end : symbols_from m (drop i t) ≡ []
  unfolding symbols_from
  symbols-end = rw drop_of_length-le

  pub count-end : (all n : ℕ) → all ≡ n + length (symbols_from m (drop i t)) → n ≡ all
  count-end all n inv = omega (arith, ap length symbols-end)

  pub store-end : (old label : List ℕ) (k : ℕ) → Storing old (label_of t) label k (map byte_of (symbols_from m (drop i t))) → length (label_of t) ≤ length old
      → (k ≡ length (label_of t)) × (label ≡ label_of t ++ drop (length (label_of t)) old)
  store-end old label k s fits = storing-none _ _ _ _ _ s (rw symbols-end) fits

-- the last symbol is stored first, then those before it
put_last : (label : List ℕ) (k j r d : ℕ) (a whole : List ℕ) → whole ≡ a ++ (d ∷ []) → r ≡ byte_of d → j ≡ k + length a
    → sets (set label j r) k (map byte_of a) ≡ sets label k (map byte_of whole)
put_last label k j r d a whole e q p = rw (e, q, p, map-append, sets_last, length-map)

pub put_low : (label : List ℕ) (k x n r : ℕ) → n ≡ length (group_of x []) → r ≡ byte_of (x % 16)
    → sets (set label (k + n - 1) r) k (map byte_of (leading_digits (x / 16) (x / 16) [])) ≡ sets label k (map byte_of (group_of x []))
unfolding group_of
put_low label k x n r e q =
    put_last label k (k + n - 1) r (x % 16) (leading_digits (x / 16) (x / 16) []) _ (digits_append (x / 16) (x / 16) (x % 16 ∷ [])) q (omega (arith, group-length x))

pub put-high : (label : List ℕ) (k y j r : ℕ) → 0 < y → j ≡ k + length (leading_digits y y []) → r ≡ byte_of (16 + y % 16)
    → sets (set label (j - 1) r) k (map byte_of (leading_digits (y / 16) (y / 16) [])) ≡ sets label k (map byte_of (leading_digits y y []))
put-high label k y j r h e q =
    put_last label k (j - 1) r (16 + y % 16) (leading_digits (y / 16) (y / 16) []) _ (digits_more y h) q (omega (arith, digits-length y h))

pub put-none : (label : List ℕ) (k y : ℕ) → y ≡ 0 → sets label k (map byte_of (leading_digits y y [])) ≡ label
put-none label k y e = rw (digits-none y [] e)

-- the item of a hyphen
module _ (m p : ℕ) (hyphen : p ≡ 45) where
  pub hyphen-length : length (item_of m p []) ≡ 1
  hyphen-length = ap length (item-hyphen m p hyphen)

  pub put-hyphen : (label : List ℕ) (k : ℕ) → Stored label k (map byte_of (item_of m p [])) (set label k 45) (k + 1)
  unfolding byte_of
  put-hyphen label k = rw (item-hyphen m p hyphen) (stored_one label k 45)

-- the length of a label, as it is counted up to 64
module _ (n long : ℕ) (count : n ≡ min 64 long) where
  pub label-long : 63 < n → 63 < long
  label-long h = omega arith

  pub label-short : n ≤ 63 → long ≤ 63
  label-short h = omega arith
