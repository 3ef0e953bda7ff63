-- On symbols, reading undoes writing and writing undoes reading.
use Prim.Native.Nat.{ℕ, ◌+◌, ◌-◌, ◌*◌, ◌/◌, ◌%◌, ◌≤◌, ◌<◌}
use mathlib.Core.Path.{◌≡◌, refl, sym, ap, ap₂, ◌∙◌}
use mathlib.Core.Bool.{true, false, not}
use mathlib.Core.Logic.{inl, inr}
use mathlib.Core.List.{List, [], ◌∷◌}
use lib.Bits.{bit_xor}
use lib.Dec.{eqb, ltb}
use lib.ListN.{length}
use borrow.Author.Tests.{ltb-true, ltb-false, lt-ltb, eqb-true, eqb-false, ne_eqb, not-true}
use native.Mathlib.Omega.{arith}
use Rattle.basis.specs.Tests.{both, every}
use Rattle.basis.specs.Rows.{at}
use Rattle.basis.proofs.Tests.{cases, both_left, both_right, both_true, from_first}
use Rattle.utf16.specs.Points.{is_point, is_text}
use Rattle.utf16.proofs.Surrogates.{under-point}
use Rattle.altdude.specs.Encoding.{leading_digits, group_of, item_of, remembered_after, symbols_from}
use Rattle.altdude.specs.Decoding.{is_readable, text_from}
use Rattle.altdude.proofs.Xor.{xor-back, xor-again}
use Rattle.altdude.proofs.Digits.{digits_step, digits-ind, digits-none}
use Rattle.altdude.proofs.Steps.{readable-nil, readable-low, readable-hyphen, readable-high, text-nil, text-low, text-hyphen, text-high}
use Rattle.altdude_facts.proofs.Bytes.{IsSymbol, AreSymbols}

-- the leading digits of a group are read as their number
module _ (m x : ℕ) (rest : List ℕ) (p : 0 < x) where
  digit-high : 16 ≤ 16 + x % 16
  digit-high = omega arith

  digit-no : 16 + x % 16 ≡ 45 → ⊥
  digit-no q = omega arith

  digit-joined : x / 16 * 16 + (16 + x % 16 - 16) ≡ x
  digit-joined = omega arith

  readable-digit : is_readable m (x / 16) ((16 + x % 16) ∷ rest) ≡ is_readable m x rest
  unfolding both
  readable-digit =
      readable-high m (x / 16) (16 + x % 16) rest digit-high digit-no
      ∙ rw (digit-joined, ne_eqb x 0 (λ q. omega arith), lt-ltb (16 + x % 16) 32 (omega arith))

  text-digit : text_from m (x / 16) ((16 + x % 16) ∷ rest) ≡ text_from m x rest
  text-digit = text-high m (x / 16) (16 + x % 16) rest digit-high digit-no ∙ rw digit-joined

module _ (m x : ℕ) (rest : List ℕ) where
  last-low : x % 16 < 16
  last-low = omega arith

  last-joined : x / 16 * 16 + x % 16 ≡ x
  last-joined = omega arith

  readable-group : is_readable m 0 (group_of x rest) ≡ both (both (is_point (bit_xor m x)) (not (eqb (bit_xor m x) 45))) (is_readable (bit_xor m x) 0 rest)
  unfolding group_of
  readable-group =
      digits-ind (is_readable m) (readable-digit m) (x / 16) (x % 16 ∷ rest)
      ∙ readable-low m (x / 16) (x % 16) rest last-low
      ∙ rw last-joined

  text-group : text_from m 0 (group_of x rest) ≡ bit_xor m x ∷ text_from (bit_xor m x) 0 rest
  unfolding group_of
  text-group =
      digits-ind (text_from m) (text-digit m) (x / 16) (x % 16 ∷ rest)
      ∙ text-low m (x / 16) (x % 16) rest last-low
      ∙ rw last-joined

-- what is written of a text is readable, and read as that text
pub written-readable : (m : ℕ) (t : List ℕ) → is_text t ≡ true → is_readable m 0 (symbols_from m t) ≡ true
unfolding symbols_from item_of remembered_after is_text every both
written-readable m [] a = readable-nil m
written-readable m (p ∷ t) a =
    cases (eqb p 45)
    (λ e. rw (e, readable-hyphen) (written-readable m t (both_right (is_point p) _ a)))
    (λ e. rw (e, readable-group, xor-back, both_left (is_point p) _ a, e) (written-readable p t (both_right (is_point p) _ a)))

pub written-text : (m : ℕ) (t : List ℕ) → text_from m 0 (symbols_from m t) ≡ t
unfolding symbols_from item_of remembered_after
written-text m [] = text-nil m 0
written-text m (p ∷ t) =
    cases (eqb p 45)
    (λ e. rw (e, text-hyphen, eqb-true p 45 e) (ap (λ (l : List ℕ). 45 ∷ l) (written-text m t)))
    (λ e. rw (e, text-group, xor-back) (ap (λ (l : List ℕ). p ∷ l) (written-text p t)))

-- the test as a predicate, for proofs by its cases
pub data Readable : ℕ → ℕ → List ℕ → Type 0 where
  at-end : {m : ℕ} → Readable m 0 []
  by_last : {m v s : ℕ} {l : List ℕ} → s < 16 → is_point (bit_xor m (v * 16 + s)) ≡ true → eqb (bit_xor m (v * 16 + s)) 45 ≡ false
      → Readable (bit_xor m (v * 16 + s)) 0 l → Readable m v (s ∷ l)
  by-hyphen : {m : ℕ} {l : List ℕ} → Readable m 0 l → Readable m 0 (45 ∷ l)
  by-leading : {m v s : ℕ} {l : List ℕ} → 16 ≤ s → s < 32 → (v * 16 + (s - 16) ≡ 0 → ⊥) → Readable m (v * 16 + (s - 16)) l → Readable m v (s ∷ l)

pub readable-is : (m v : ℕ) (l : List ℕ) → is_readable m v l ≡ true → Readable m v l
unfolding is_readable
readable-is m v [] r = rw (eqb-true v 0 r) at-end
readable-is m v (s ∷ l) r =
    cases (ltb s 16)
    (λ e.
    let low = ltb-true s 16 e in
    let X = bit_xor m (v * 16 + s) in
    let q : both (both (is_point X) (not (eqb X 45))) (is_readable X 0 l) ≡ true = sym (readable-low m v s l low) ∙ r in
    by_last low (both_left _ _ (both_left _ _ q)) (not-true _ (both_right _ _ (both_left _ _ q))) (readable-is X 0 l (both_right _ _ q)))
    (λ e. cases (eqb s 45)
    (λ y.
    let q : both (eqb v 0) (is_readable m 0 l) ≡ true = sym (readable-hyphen m v l) ∙ rw (eqb-true s 45 y) at r in
    rw (eqb-true s 45 y, eqb-true v 0 (both_left _ _ q)) (by-hyphen (readable-is m 0 l (both_right _ _ q))))
    (λ n.
    let high = ltb-false s 16 e in
    let q = sym (readable-high m v s l high (eqb-false s 45 n)) ∙ r in
    by-leading high (ltb-true _ _ (both_left _ _ (both_left _ _ q))) (eqb-false _ _ (not-true _ (both_right _ _ (both_left _ _ q))))
    (readable-is m (v * 16 + (s - 16)) l (both_right _ _ q))))

pub readable-passes : {m v : ℕ} {l : List ℕ} → Readable m v l → is_readable m v l ≡ true
unfolding both
readable-passes {m} at-end = readable-nil m
readable-passes {m} {v} (by_last {s = s} {l = l} low p n r) = readable-low m v s l low ∙ rw (p, n) (readable-passes r)
readable-passes {m} (by-hyphen {l = l} r) = readable-hyphen m 0 l ∙ readable-passes r
readable-passes {m} {v} (by-leading {s = s} {l = l} high less n r) =
    readable-high m v s l high (λ q. omega arith) ∙ rw (lt-ltb s 32 less, ne_eqb _ 0 n) (readable-passes r)

-- a readable row is one of symbols
symbols-more : (s : ℕ) (l : List ℕ) → IsSymbol s → AreSymbols l → AreSymbols (s ∷ l)
symbols-more s l = from_first (λ i. IsSymbol (at (s ∷ l) i)) (length l)

pub readable-symbols : {m v : ℕ} {l : List ℕ} → Readable m v l → AreSymbols l
readable-symbols at-end = λ i h. absurd (omega arith)
readable-symbols (by_last {s = s} {l = l} low p n r) = symbols-more s l (inl (omega arith)) (readable-symbols r)
readable-symbols (by-hyphen {l = l} r) = symbols-more 45 l (inr refl) (readable-symbols r)
readable-symbols (by-leading {s = s} {l = l} high less n r) = symbols-more s l (inl less) (readable-symbols r)

-- what a point is written as: a hyphen, or the group of its XOR
symbols-nil : (m : ℕ) → symbols_from m [] ≡ []
unfolding symbols_from
symbols-nil m = refl

symbols-hyphen : (m : ℕ) (t : List ℕ) → symbols_from m (45 ∷ t) ≡ 45 ∷ symbols_from m t
unfolding symbols_from item_of remembered_after
symbols-hyphen m t = refl

symbols-group : (m p : ℕ) (t : List ℕ) → eqb p 45 ≡ false → symbols_from m (p ∷ t) ≡ group_of (bit_xor p m) (symbols_from p t)
unfolding symbols_from item_of remembered_after
symbols-group m p t e = rw e

-- the group that ends with the digit s after the digits of v
group-last : (v s : ℕ) (l : List ℕ) → s < 16 → group_of (v * 16 + s) l ≡ leading_digits v v (s ∷ l)
unfolding group_of
group-last v s l h =
    let q : (v * 16 + s) / 16 ≡ v = omega arith in
    let r : (v * 16 + s) % 16 ≡ s = omega arith in
    rw (q, r)

-- the text that is read with the value v pending is written as the digits of v before the row
pub read-symbols : {m v : ℕ} {l : List ℕ} → Readable m v l → symbols_from m (text_from m v l) ≡ leading_digits v v l
read-symbols {m} at-end = ap (symbols_from m) (text-nil m 0) ∙ symbols-nil m ∙ sym (digits-none 0 [] refl)
read-symbols {m} {v} (by_last {s = s} {l = l} low p n r) =
    ap (symbols_from m) (text-low m v s l low)
    ∙ symbols-group m (bit_xor m (v * 16 + s)) _ n
    ∙ ap₂ group_of (xor-again m (v * 16 + s)) (read-symbols r ∙ digits-none 0 l refl)
    ∙ group-last v s l low
read-symbols {m} (by-hyphen {l = l} r) =
    ap (symbols_from m) (text-hyphen m 0 l)
    ∙ symbols-hyphen m _
    ∙ ap (λ (l : List ℕ). 45 ∷ l) (read-symbols r ∙ digits-none 0 l refl)
    ∙ sym (digits-none 0 (45 ∷ l) refl)
read-symbols {m} {v} (by-leading {s = s} {l = l} high less n r) =
    ap (symbols_from m) (text-high m v s l high (λ q. omega arith))
    ∙ read-symbols r
    ∙ digits_step v (s - 16) l (omega arith) n
    ∙ ap (λ (d : ℕ). leading_digits v v (d ∷ l)) (omega arith)

-- and is a text
pub read-text : {m v : ℕ} {l : List ℕ} → Readable m v l → is_text (text_from m v l) ≡ true
unfolding is_text every
read-text {m} at-end = rw (text-nil m 0)
read-text {m} {v} (by_last {s = s} {l = l} low p n r) = rw (text-low m v s l low) (both_true p (read-text r))
read-text {m} (by-hyphen {l = l} r) = rw (text-hyphen m 0 l) (both_true (under-point 45 (omega arith)) (read-text r))
read-text {m} {v} (by-leading {s = s} {l = l} high less n r) = rw (text-high m v s l high (λ q. omega arith)) (read-text r)
