-- Laws on tests: cases, conjunctions, ranges, tests at every number, and the first number at which a test holds.
use Prim.Native.Nat.{ℕ, zero, suc, ◌≤◌, ◌<◌}
use mathlib.Core.Path.{◌≡◌, refl, sym, ap, ◌∙◌}
use mathlib.Core.Bool.{Bool, true, false, not}
use mathlib.Core.Logic.{◌↔◌}
use lib.Dec.{ltb, leb, eqb}
use borrow.Author.Tests.{ltb-true, ltb-false, leb-true, lt-ltb, le-ltb, le-leb, lt-leb, eqb-true, eq-eqb, not-true, not-false}
use native.Mathlib.Nat.{le_of_suc-le-suc}
use native.Mathlib.Omega.{arith}
use Rattle.basis.specs.Tests.{both, within, every, first_below, IsFirst}

-- by the two values of a test, with the equation that it gives
pub cases {ℓ} : {A : Type ℓ} (b : Bool) → (b ≡ true → A) → (b ≡ false → A) → A
cases true f g = f refl
cases false f g = g refl

-- by order of two numbers
pub by-lt {ℓ} : {A : Type ℓ} (m n : ℕ) → (m < n → A) → (n ≤ m → A) → A
by-lt m n less more = cases (ltb m n) (λ e. less (ltb-true m n e)) (λ e. more (ltb-false m n e))

-- a test and what it tests
pub ltb_iff : (m n : ℕ) → (ltb m n ≡ true) ↔ (m < n)
ltb_iff m n = (ltb-true m n, lt-ltb m n)

pub leb-iff : (m n : ℕ) → (leb m n ≡ true) ↔ (m ≤ n)
leb-iff m n = (leb-true m n, le-leb m n)

pub eqb-iff : (m n : ℕ) → (eqb m n ≡ true) ↔ (m ≡ n)
eqb-iff m n = (eqb-true m n, eq-eqb m n)

pub not_iff : (b : Bool) → (not b ≡ true) ↔ (b ≡ false)
not_iff b = (not-true b, λ e. ap not e)

-- a test that holds exactly if the one number is below the other
pub ltb-is : (m n : ℕ) (b : Bool) → (m < n → b ≡ true) → (n ≤ m → b ≡ false) → ltb m n ≡ b
ltb-is m n b less more = by-lt m n (λ h. lt-ltb m n h ∙ sym (less h)) (λ h. le-ltb m n h ∙ sym (more h))

pub true-not-false : {b : Bool} → b ≡ true → b ≡ false → ⊥
true-not-false e d = let z : ◌≡◌ {A = ℕ} 0 1 = cc in omega arith

-- a test fails exactly where what it tests does not hold
pub fails-iff : (b : Bool) {A : Type 0} → (b ≡ true) ↔ A → (not b ≡ true) ↔ (A → ⊥)
fails-iff b i = (
  λ e a. true-not-false (i.1 a) (not-true b e),
  λ n. cases b (λ e. absurd (n (i.0 e))) (λ e. ap not e),
)

pub both_left : (a b : Bool) → both a b ≡ true → a ≡ true
unfolding both
both_left true b e = refl
both_left false b e = e

pub both_right : (a b : Bool) → both a b ≡ true → b ≡ true
unfolding both
both_right true b e = e
both_right false b e = absurd (true-not-false e refl)

pub both_true : {a b : Bool} → a ≡ true → b ≡ true → both a b ≡ true
unfolding both
both_true {a = true} e d = d
both_true {a = false} e d = e

pub both_false : (b : Bool) → both b false ≡ false
unfolding both
both_false true = refl
both_false false = refl

-- a range and its bounds
pub within-true : (low high x : ℕ) → low ≤ x → x ≤ high → within low high x ≡ true
unfolding within
within-true low high x h g = both_true (le-leb low x h) (le-leb x high g)

pub within-below : (low high x : ℕ) → x < low → within low high x ≡ false
unfolding within both
within-below low high x h = rw (lt-leb low x h)

pub within-above : (low high x : ℕ) → high < x → within low high x ≡ false
unfolding within both
within-above low high x h = cases (leb low x) (λ e. rw (e, lt-leb x high h)) (λ e. rw e)

pub within_low : (low high x : ℕ) → within low high x ≡ true → low ≤ x
unfolding within
within_low low high x e = leb-true low x (both_left _ _ e)

pub within-high : (low high x : ℕ) → within low high x ≡ true → x ≤ high
unfolding within
within-high low high x e = leb-true x high (both_right _ _ e)

-- above the lower bound the upper one decides
pub within-from : (low high x : ℕ) → low ≤ x → ltb x (suc high) ≡ within low high x
within-from low high x l = ltb-is x (suc high) _ (λ h. within-true low high x l (le_of_suc-le-suc h)) (λ h. within-above low high x h)

-- a test that holds at every number below n holds at each, and conversely
pub at_each : (n : ℕ) (test : ℕ → Bool) → every n test ≡ true → (k : ℕ) → k < n → test k ≡ true
unfolding every
at_each zero test e k h = absurd (omega arith)
at_each (suc n) test e zero h = both_left _ _ e
at_each (suc n) test e (suc k) h = at_each n (λ i. test (suc i)) (both_right _ _ e) k (le_of_suc-le-suc h)

pub each_at : (n : ℕ) (test : ℕ → Bool) → ((k : ℕ) → k < n → test k ≡ true) → every n test ≡ true
unfolding every
each_at zero test h = refl
each_at (suc n) test h = both_true (h zero (omega arith)) (each_at n (λ i. test (suc i)) (λ k g. h (suc k) (omega arith)))

-- a test that fails at one number does not hold at every number
pub not-each : (n : ℕ) (test : ℕ → Bool) (k : ℕ) → k < n → test k ≡ false → every n test ≡ false
not-each n test k h e = cases (every n test) (λ t. absurd (true-not-false (at_each n test t k h) e)) (λ f. f)

-- tests that are the same at each number below n
pub every-same : (n : ℕ) (f g : ℕ → Bool) → ((k : ℕ) → k < n → f k ≡ g k) → every n f ≡ every n g
unfolding every
every-same zero f g h = refl
every-same (suc n) f g h = rw (h zero (omega arith), every-same n (λ i. f (suc i)) (λ i. g (suc i)) (λ k l. h (suc k) (omega arith)))

-- what holds of 0, and of each successor of a number below n, holds of each number below n + 1
pub from_first : (P : ℕ → Type 0) (n : ℕ) → P 0 → ((k : ℕ) → k < n → P (suc k)) → (k : ℕ) → k < suc n → P k
from_first P n z s zero h = z
from_first P n z s (suc k) h = s k (le_of_suc-le-suc h)

pub first-le : (n : ℕ) (test : ℕ → Bool) → first_below n test ≤ n
unfolding first_below
first-le zero test = omega arith
first-le (suc n) test =
    let i = first-le n (λ i. test (suc i)) in
    cases (test zero) (λ e. rw e (omega arith)) (λ e. rw e (omega arith))

-- the test holds at no number before the first
pub first-before : (n : ℕ) (test : ℕ → Bool) (j : ℕ) → j < first_below n test → test j ≡ false
unfolding first_below
first-before zero test j h = absurd (omega arith)
first-before (suc n) test j h = cases (test zero) (λ e. absurd (none (rw e at h))) (λ e. later j e (rw e at h) (λ i g. first-before n (λ i. test (suc i)) i g))
  where
    none : {x : ℕ} → x < 0 → ⊥
    none h = omega arith

    later : (j : ℕ) → test zero ≡ false → j < suc (first_below n (λ i. test (suc i))) → ((i : ℕ) → i < first_below n (λ i. test (suc i)) → test (suc i) ≡ false) → test j ≡ false
    later zero e h ih = e
    later (suc j) e h ih = ih j (le_of_suc-le-suc h)

-- the test holds at the first number, if that is below n
pub first-here : (n : ℕ) (test : ℕ → Bool) → first_below n test < n → test (first_below n test) ≡ true
unfolding first_below
first-here zero test h = absurd (omega arith)
first-here (suc n) test h = cases (test zero) (λ e. rw e e) (λ e. rw e (first-here n (λ i. test (suc i)) (le_of_suc-le-suc (rw e at h))))

pub first-is : (n : ℕ) (test : ℕ → Bool) → first_below n test < n → IsFirst n test (first_below n test)
first-is n test h = record { inside = h; here = first-here n test h; before = first-before n test }

-- and there is one such number at most
pub first-at : (n : ℕ) (test : ℕ → Bool) (k : ℕ) → k < n → test k ≡ true → ((j : ℕ) → j < k → test j ≡ false) → first_below n test ≡ k
first-at n test k h e b =
    by-lt (first_below n test) k
    (λ g. absurd (true-not-false (first-here n test (omega arith)) (b (first_below n test) g)))
    (λ g. by-lt k (first_below n test) (λ l. absurd (true-not-false e (first-before n test k l))) (λ l. omega arith))

pub first-none : (n : ℕ) (test : ℕ → Bool) → ((j : ℕ) → j < n → test j ≡ false) → first_below n test ≡ n
first-none n test b =
    by-lt (first_below n test) n
    (λ g. absurd (true-not-false (first-here n test g) (b (first_below n test) g)))
    (λ g. let l = first-le n test in omega arith)

-- a search that went to the end
pub first-stop : (n : ℕ) (test : ℕ → Bool) (k : ℕ) → n ≤ k → k ≤ n → ((j : ℕ) → j < k → test j ≡ false) → first_below n test ≡ k
first-stop n test k h g b = let e : n ≡ k = omega arith in first-none n test (rw (← e) at b) ∙ e

-- a test holds at every number below n exactly when there is no first at which it fails
pub none-iff : (n : ℕ) (test : ℕ → Bool) → (first_below n (λ k. not (test k)) ≡ n) ↔ (every n test ≡ true)
none-iff n test = (
  λ e. each_at n test (λ k h. not-false (test k) (first-before n (λ k. not (test k)) k (rw e h))),
  λ e. first-none n (λ k. not (test k)) (λ k h. ap not (at_each n test e k h)),
)
