-- Laws on one point or unit: what is a point and a surrogate; and the search for unpaired surrogates.
use Prim.Native.Nat.{ℕ, ◌+◌, ◌≤◌, ◌<◌}
use mathlib.Core.Path.{◌≡◌, refl, sym, ap, ◌∙◌}
use mathlib.Core.Bool.{Bool, true, false, not}
use mathlib.Core.List.{List, ◌∷◌}
use lib.ListN.{length, get_or}
use borrow.Author.Count.{below_none, below_more}
use borrow.Author.Tests.{leb-true, le-leb, lt-leb}
use native.Mathlib.Numerals.{add-one}
use native.Mathlib.Omega.{arith}
use Rattle.basis.specs.Tests.{both}
use Rattle.basis.proofs.Tests.{cases, by-lt, true-not-false, both_left, both_true, within-true, within-below, within-above, within_low, within-high, at_each, first-at, first-stop}
use Rattle.surrogates.specs.Points.{is_point, is_text}
use Rattle.surrogates.specs.Surrogates.{is_high, is_low, is_unpaired, unpaired_at, first_unpaired}

-- 0 is no surrogate
pub zero-not-high : is_high 0 ≡ false
unfolding is_high
zero-not-high = within-below 0xd800 0xdbff 0 (omega arith)

pub zero-not-low : is_low 0 ≡ false
unfolding is_low
zero-not-low = within-below 0xdc00 0xdfff 0 (omega arith)

-- a high surrogate is no low one
pub high-not-low : (u : ℕ) → is_high u ≡ true → is_low u ≡ false
unfolding is_high is_low
high-not-low u h = let g = within-high 0xd800 0xdbff u h in within-below 0xdc00 0xdfff u (omega arith)

pub low-not-high : (u : ℕ) → is_low u ≡ true → is_high u ≡ false
unfolding is_high is_low
low-not-high u h = let g = within_low 0xdc00 0xdfff u h in within-above 0xd800 0xdbff u (omega arith)

-- a point is at most 10FFFF hex, and no surrogate
pub point-top : (p : ℕ) → is_point p ≡ true → p ≤ 0x10ffff
unfolding is_point
point-top p e = leb-true p 0x10ffff (both_left _ _ e)

-- what is a point, by its place
pub under-point : (p : ℕ) → p < 0xd800 → is_point p ≡ true
unfolding is_point
under-point p h = both_true (le-leb p 0x10ffff (omega arith)) (ap not (within-below 0xd800 0xdfff p h))

pub over-point : (p : ℕ) → 0xdfff < p → p ≤ 0x10ffff → is_point p ≡ true
unfolding is_point
over-point p h t = both_true (le-leb p 0x10ffff t) (ap not (within-above 0xd800 0xdfff p h))

pub between-no-point : (p : ℕ) → 0xd800 ≤ p → p ≤ 0xdfff → is_point p ≡ false
unfolding is_point both
between-no-point p l h = rw (le-leb p 0x10ffff (omega arith), within-true 0xd800 0xdfff p l h)

pub above-no-point : (p : ℕ) → 0x10ffff < p → is_point p ≡ false
unfolding is_point both
above-no-point p h = rw (lt-leb p 0x10ffff h)

point-beside {ℓ} : {A : Type ℓ} (p : ℕ) → is_point p ≡ true → (p < 0xd800 → A) → (0xdfff < p → A) → A
point-beside p e under over =
    by-lt p 0xd800 under (λ l. by-lt 0xdfff p over (λ h. absurd (true-not-false e (between-no-point p l h))))

pub point-not-high : (p : ℕ) → is_point p ≡ true → is_high p ≡ false
unfolding is_high
point-not-high p e = point-beside p e (λ h. within-below 0xd800 0xdbff p h) (λ h. within-above 0xd800 0xdbff p (omega arith))

pub point-not-low : (p : ℕ) → is_point p ≡ true → is_low p ≡ false
unfolding is_low
point-not-low p e = point-beside p e (λ h. within-below 0xdc00 0xdfff p (omega arith)) (λ h. within-above 0xdc00 0xdfff p h)

-- a unit that is no surrogate is a point
pub plain-point : (u : ℕ) → u < 0x10000 → is_high u ≡ false → is_low u ≡ false → is_point u ≡ true
unfolding is_high is_low
plain-point u b h l =
    by-lt u 0xd800 (λ g. under-point u g)
    (λ g. by-lt 0xdfff u (λ k. over-point u k (omega arith))
    (λ k. by-lt u 0xdc00
    (λ m. absurd (true-not-false (within-true 0xd800 0xdbff u g (omega arith)) h))
    (λ m. absurd (true-not-false (within-true 0xdc00 0xdfff u m k) l))))

-- when a unit is unpaired, by its kind
pub unpaired-high : (before u after : ℕ) → is_high u ≡ true → is_unpaired before u after ≡ not (is_low after)
unfolding is_unpaired both
unpaired-high before u after h = rw (h, high-not-low u h) (cases (is_low after) (λ e. rw e) (λ e. rw e))

pub unpaired-low : (before u after : ℕ) → is_low u ≡ true → is_unpaired before u after ≡ not (is_high before)
unfolding is_unpaired both
unpaired-low before u after l = rw (l, low-not-high u l)

pub unpaired-plain : (before u after : ℕ) → is_high u ≡ false → is_low u ≡ false → is_unpaired before u after ≡ false
unfolding is_unpaired both
unpaired-plain before u after h l = rw (h, l)

-- no unit before index i is an unpaired surrogate, and before is the last of them
pub record Searching (us : List ℕ) (before i : ℕ) : Type 0 where
  pub inside : i ≤ length us
  pub last : before ≡ get_or (0 ∷ us) i 0
  pub passed : (k : ℕ) → k < i → unpaired_at 0 us k ≡ false

pub searching-none : (us : List ℕ) → Searching us 0 0
searching-none us = record { inside = omega arith; last = refl; passed = below_none _ }

module _ (us : List ℕ) (before i : ℕ) (s : Searching us before i) where
  pub searching-all : length us ≤ i → i ≡ first_unpaired us
  unfolding first_unpaired
  searching-all h = sym (first-stop (length us) (unpaired_at 0 us) i h s.inside s.passed)

  -- the test of the unit at index i between its neighbours
  module _ (inside : i < length us) (unit after : ℕ) (found : Bool) (u : unit ≡ get_or us i 0) (a : after ≡ get_or us (i + 1) 0) (f : found ≡ is_unpaired before unit after) where
    here : unpaired_at 0 us i ≡ found
    unfolding unpaired_at
    here = rw (f, s.last, u, a, add-one)

    pub searching-found : found ≡ true → i ≡ first_unpaired us
    unfolding first_unpaired
    searching-found e = sym (first-at (length us) (unpaired_at 0 us) i inside (here ∙ e) s.passed)

    pub searching-more : found ≡ false → Searching us unit (i + 1)
    searching-more e = record { inside = omega arith; last = rw (u, add-one); passed = below_more _ _ s.passed (here ∙ e) }

-- each number of a text is a point
pub text_at : (ps : List ℕ) (i : ℕ) → is_text ps ≡ true → i < length ps → is_point (get_or ps i 0) ≡ true
unfolding is_text
text_at ps i e h = at_each (length ps) _ e i h

-- what `is_point`, `is_high` and `is_low` need
pub ruleset point_by_place = (under-point, over-point, between-no-point, above-no-point)

pub ruleset surrogate_by_place = (within-true, within-below, within-above)
