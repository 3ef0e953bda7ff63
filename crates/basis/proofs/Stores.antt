-- Laws on stores: a buffer that is filled piece by piece from the front, by what is left to store.
use Prim.Native.Nat.{ℕ, suc, ◌+◌, ◌-◌, ◌≤◌, ◌<◌}
use mathlib.Core.Path.{◌≡◌, refl, sym, ap, ◌∙◌}
use mathlib.Core.List.{List, [], ◌∷◌, ◌++◌, append-nil, append_assoc}
use lib.ListN.{length, get_or, take, drop, set, length-append, drop_of_length-le}
use lib.Seq.{set_comm, sets, sets-eq, length-sets, drop-cons, drop-drop}
use native.Mathlib.Nat.{add-zero, add-suc, suc-add}
use native.Mathlib.Numerals.{add-one}
use native.Mathlib.Omega.{arith}
pub use Rattle.basis.specs.Internal.{StoringFrom, Storing, Stored}
use Rattle.basis.proofs.Lists.{sets-front}

pub sets-append : (buffer : List ℕ) (at : ℕ) (piece rest : List ℕ) → sets buffer at (piece ++ rest) ≡ sets (sets buffer at piece) (at + length piece) rest
sets-append buffer at [] rest = rw add-zero
sets-append buffer at (x ∷ piece) rest = rw (add-suc, ← suc-add) (sets-append (set buffer at x) (suc at) piece rest)

-- the last value may be stored before the others
pub sets_last : (buffer : List ℕ) (at : ℕ) (piece : List ℕ) (x : ℕ) → sets buffer at (piece ++ (x ∷ [])) ≡ sets (set buffer (at + length piece) x) at piece
sets_last buffer at [] x = rw add-zero
sets_last buffer at (y ∷ piece) x =
    let e : at + suc (length piece) ≡ suc at + length piece = omega arith in
    sets_last (set buffer at y) (suc at) piece x ∙ rw (e, set_comm buffer (suc at + length piece) at x y (λ q. omega arith))

module _ {from : ℕ} where
  pub storing-all : (old values : List ℕ) → StoringFrom from old values old from values
  storing-all old values = record { stores = refl; count = refl; long = refl }

  pub storing-more : (old values now : List ℕ) (at : ℕ) (left : List ℕ) → StoringFrom from old values now at left
      → (piece rest : List ℕ) → left ≡ piece ++ rest
      → (more : List ℕ) (next : ℕ) → more ≡ sets now at piece → next ≡ at + length piece → StoringFrom from old values more next rest
  storing-more old values now at left s piece rest e more next m n = record {
    stores = rw (m, n) (sym (sets-append now at piece rest) ∙ ap (sets now at) (sym e) ∙ s.stores);
    count = let l : length left ≡ length piece + length rest = ap length e ∙ length-append piece rest in omega (arith, n, s.count);
    long = ap length m ∙ length-sets now at piece ∙ s.long;
  }

  -- one piece more, as a function stored it; and with none left all is stored
  module _ {old values now : List ℕ} {at : ℕ} {left : List ℕ} (s : StoringFrom from old values now at left) where
    pub storing-piece : {piece rest later : List ℕ} {next : ℕ} → left ≡ piece ++ rest → Stored now at piece later next → StoringFrom from old values later next rest
    storing-piece {piece} {rest} {later} {next} e t = storing-more old values now at left s piece rest e later next t.stores (omega (arith, t.count))

    pub storing-end : left ≡ [] → Stored old from values now at
    storing-end e = rw e at s

-- a piece, and after it another
pub stored-append : {old : List ℕ} {at : ℕ} {piece now : List ℕ} {next : ℕ} → Stored old at piece now next
    → {more later : List ℕ} {last : ℕ} → Stored now next more later last → Stored old at (piece ++ more) later last
stored-append {old} {at} {piece} s {more} t = storing-piece (storing-piece (storing-all old (piece ++ more)) refl s) (sym (append-nil more)) t

-- no value, and one
pub stored-none : (old : List ℕ) (at : ℕ) → Stored old at [] old at
stored-none old at = storing-all old []

pub stored_one : (old : List ℕ) (at x : ℕ) → Stored old at (x ∷ []) (set old at x) (at + 1)
stored_one old at x = record { stores = refl; count = omega arith; long = length-sets old at (x ∷ []) }

pub storing-none : (old values now : List ℕ) (at : ℕ) (left : List ℕ) → Storing old values now at left → left ≡ [] → length values ≤ length old
    → (at ≡ length values) × (now ≡ values ++ drop (length values) old)
storing-none old values now at left s e h = (
  omega (arith, s.count, ap length e),
  ap (sets now at) (sym e) ∙ s.stores ∙ sets-front values old h,
)

-- a piece that was put into a part of the buffer
pub stored-part : (buffer piece : List ℕ) (at next : ℕ) → at + length piece ≡ next → next ≤ length buffer
    → Stored buffer at piece (take at buffer ++ (piece ++ drop (next - at) (drop at buffer))) next
stored-part buffer piece at next is fits =
    let n : next - at ≡ length piece = omega arith in
    let m : at + length piece ≤ length buffer = omega arith in
    let stores : take at buffer ++ (piece ++ drop (next - at) (drop at buffer)) ≡ sets buffer at piece
    = rw (n, drop-drop (length piece) at buffer) (sym (sets-eq piece buffer at m ∙ append_assoc (take at buffer) piece (drop (at + length piece) buffer))) in
    record { stores = stores; count = omega arith; long = ap length stores ∙ length-sets buffer at piece }

-- a row stored one by one: the start, a turn, and the end
module _ (row old : List ℕ) (from : ℕ) where
  pub row-start : StoringFrom from old row old (from + 0) (drop 0 row)
  row-start = rw add-zero (storing-all old row)

  module _ (now : List ℕ) (i : ℕ) (s : StoringFrom from old row now (from + i) (drop i row)) where
    pub row-turn : i < length row → StoringFrom from old row (set now (from + i) (get_or row i 0)) (from + (i + 1)) (drop (i + 1) row)
    row-turn h =
        let e : from + (i + 1) ≡ from + i + 1 = omega arith in
        rw e (storing-piece s (rw add-one (drop-cons row i 0 h)) (stored_one now (from + i) (get_or row i 0)))

    pub row-end : length row ≤ i → Stored old from row now (from + i)
    row-end h = storing-end s (drop_of_length-le row h)
