-- Tests on numbers and rows, and the first index at which one holds.
use Rattle.std.specs.Prelude.{ℕ, zero, suc, ◌<◌, ◌≡◌, Bool, true, false, List, leb, length, get_or}

-- the first value if the test holds, else the second
abbrev pub pick {ℓ} : {A : Type ℓ} → Bool → A → A → A
pick true a b = a
pick false a b = b

-- both tests hold
unfoldable pub both : Bool → Bool → Bool
both true b = b
both false b = false

-- x is one of low to high
unfoldable pub within : ℕ → ℕ → ℕ → Bool
within low high x = both (leb low x) (leb x high)

-- the test holds at every number below n
unfoldable pub every : ℕ → (ℕ → Bool) → Bool
every zero test = true
every (suc n) test = both (test zero) (every n (λ i. test (suc i)))

-- the first number below n at which the test holds, or n
unfoldable pub first_below : ℕ → (ℕ → Bool) → ℕ
first_below zero test = zero
first_below (suc n) test = pick (test zero) zero (suc (first_below n (λ i. test (suc i))))

-- k is the first number below n at which the test holds
pub record IsFirst (n : ℕ) (test : ℕ → Bool) (k : ℕ) : Type 0 where
  pub inside : k < n
  pub here : test k ≡ true
  pub before : (j : ℕ) → j < k → test j ≡ false

-- the test holds of every element
abbrev pub every_in : (ℕ → Bool) → List ℕ → Bool
every_in test xs = every (length xs) (λ i. test (get_or xs i 0))

-- the index of the first element of which the test holds, or the length
abbrev pub first_in : (ℕ → Bool) → List ℕ → ℕ
first_in test xs = first_below (length xs) (λ i. test (get_or xs i 0))
