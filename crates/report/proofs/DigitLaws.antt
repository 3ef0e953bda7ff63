-- Digits: how many there are, one more of them, and their stores, the last one first.
use Prim.Native.Nat.{ℕ, zero, suc, ◌+◌, ◌-◌, ◌/◌, ◌%◌, ◌^◌, ◌<◌, ◌≤◌, max}
use mathlib.Core.Path.{◌≡◌, refl, ap, ◌∙◌}
use mathlib.Core.List.{List, [], ◌∷◌, ◌++◌, append_assoc}
use native.Mathlib.Nat.{not-suc-le-zero, div-lt_self, div-lt_iff_lt-mul, pow-zero, pow-suc, pow-le-pow_left}
use native.Mathlib.Omega.{arith}
use lib.ListN.{length, set, length-append}
use lib.Seq.{sets, length-sets}
use Rattle.basis.proofs.Tests.{by-lt}
use Rattle.basis.proofs.Stores.{sets_last}
use Rattle.basis.specs.Internal.{Stored}
use Rattle.report.specs.Digits.{digit_character, digits_before, digit_count, fixed_digits, digits_of}

-- what comes before the rest does not depend on it
before-append : (base count n : ℕ) (rest : List ℕ) → digits_before base count n rest ≡ digits_before base count n [] ++ rest
unfolding digits_before
before-append base zero n rest = refl
before-append base (suc count) n rest =
    let d = digit_character (n % base) in
    rw (before-append base count (n / base) (d ∷ rest), before-append base count (n / base) (d ∷ []), append_assoc)

-- the digits one by one, the last first
fixed_more : (base count n : ℕ) → fixed_digits base (suc count) n ≡ fixed_digits base count (n / base) ++ (digit_character (n % base) ∷ [])
unfolding digits_before
fixed_more base count n = before-append base count (n / base) (digit_character (n % base) ∷ [])

pub fixed-length : (base count n : ℕ) → length (fixed_digits base count n) ≡ count
unfolding digits_before
fixed-length base zero n = refl
fixed-length base (suc count) n =
    rw (fixed_more base count n, length-append, fixed-length base count (n / base)) (omega arith)

pub digits-length : (base least n : ℕ) → length (digits_of base least n) ≡ max least (digit_count base n n)
unfolding digits_of
digits-length base least n = fixed-length base _ n

pub count_none : (base n : ℕ) → n ≡ 0 → digit_count base n n ≡ 0
unfolding digit_count
count_none base n e = rw e

-- so many digits as the number is written with
pub stored-digits : {old now : List ℕ} {at next : ℕ} (base least n count : ℕ) → count ≡ length (digits_of base least n)
    → Stored old at (fixed_digits base count n) now next → Stored old at (digits_of base least n) now next
unfolding digits_of
stored-digits base least n count e s = rw (e ∙ fixed-length base _ n) at s

module _ (base : ℕ) (large : 2 ≤ base) where
  pub falls : (n : ℕ) → 0 < n → n / base < n
  falls n h = div-lt_self h (omega arith)

  -- any bound of n or more gives the same count
  count-bound : (f g n : ℕ) → n ≤ f → n ≤ g → digit_count base f n ≡ digit_count base g n
  unfolding digit_count
  count-bound zero zero n h k = refl
  count-bound zero (suc g) zero h k = refl
  count-bound zero (suc g) (suc n) h k = absurd (not-suc-le-zero h)
  count-bound (suc f) zero zero h k = refl
  count-bound (suc f) zero (suc n) h k = absurd (not-suc-le-zero k)
  count-bound (suc f) (suc g) zero h k = refl
  count-bound (suc f) (suc g) (suc n) h k =
      let l = falls (suc n) (omega arith) in
      ap suc (count-bound f g (suc n / base) (omega arith) (omega arith))

  pub count-step : (n : ℕ) → 0 < n → digit_count base n n ≡ digit_count base (n / base) (n / base) + 1
  unfolding digit_count
  count-step zero h = absurd (omega arith)
  count-step (suc n) h =
      let l = falls (suc n) h in
      let e = count-bound n (suc n / base) (suc n / base) (omega arith) (omega arith) in
      omega arith

  -- a number below base ^ k has at most k digits, and so one below 2 ^ k
  pub count-below-power : (k n : ℕ) → n < base ^ k → digit_count base n n ≤ k
  count-below-power zero n h = omega (arith, count_none base n (omega (arith, pow-zero base)))
  count-below-power (suc k) n h =
      by-lt 0 n
      (λ p. omega (arith, count-step n p, count-below-power k (n / base) ((div-lt_iff_lt-mul (omega arith)).1 (rw pow-suc at h))))
      (λ p. omega (arith, count_none base n (omega arith)))

  pub count-few : (k n : ℕ) → n < 2 ^ k → digit_count base n n ≤ k
  count-few k n h = count-below-power k n (omega (arith, pow-le-pow_left large k))

-- the digits are stored from the last one on: before the first store, one store more, and none left
module _ (base : ℕ) (out : List ℕ) (at : ℕ) where
  pub put_all : (count n : ℕ) → sets out at (fixed_digits base (at + count - at) n) ≡ sets out at (fixed_digits base count n)
  put_all count n = let e : at + count - at ≡ count = omega arith in rw e

  pub put_last : (j n r : ℕ) → at < j → r ≡ digit_character (n % base)
      → sets (set out (j - 1) r) at (fixed_digits base (j - 1 - at) (n / base)) ≡ sets out at (fixed_digits base (j - at) n)
  put_last j n r h e =
      let s : j - at ≡ suc (j - 1 - at) = omega arith in
      let p : j - 1 ≡ at + length (fixed_digits base (j - 1 - at) (n / base)) = omega (arith, fixed-length base (j - 1 - at) (n / base)) in
      rw (s, fixed_more base (j - 1 - at) n, sets_last, ← p, e)

  pub put-end : (old : List ℕ) (count number j n : ℕ) → j ≤ at → sets out at (fixed_digits base (j - at) n) ≡ sets old at (fixed_digits base count number)
      → Stored old at (fixed_digits base count number) out (at + count)
  unfolding digits_before
  put-end old count number j n h inv =
      let e : j - at ≡ 0 = omega arith in
      let s : out ≡ sets old at (fixed_digits base count number) = rw e at inv in
      record { stores = s; count = omega (arith, fixed-length base count number); long = ap length s ∙ length-sets old at (fixed_digits base count number) }
