-- The causes of refusal of a function, in order, and what it means that they settle its outcome.
use Rattle.std.specs.Prelude.{ℕ, ◌≡◌, ◌↔◌, ◌⊎◌, List, [], ◌∷◌}
use Rattle.basis.specs.Outcome.{Outcome, done, refused}

-- a cause of refusal: its number, and at which positions it holds
pub record Cause : Type 1 where
  pub number : ℕ
  pub HoldsAt : ℕ → Type 0

-- a cause with no place of its own is reported at 0
abbrev pub whole : ℕ → Type 0 → Cause
whole number Holds = record { number = number; HoldsAt = λ position. (position ≡ 0) × Holds }

-- a cause that holds at some positions
abbrev pub placed : ℕ → (ℕ → Type 0) → Cause
placed number HoldsAt = record { number = number; HoldsAt = HoldsAt }

-- a cause that is reported at another position
abbrev pub moved : (ℕ → ℕ) → Cause → Cause
moved f c = placed c.number (λ position. (p : ℕ) × (position ≡ f p) × c.HoldsAt p)

-- the causes of a row, moved, before the later ones
abbrev pub moved_all : (ℕ → ℕ) → List Cause → List Cause → List Cause
moved_all f [] later = later
moved_all f (c ∷ cs) later = moved f c ∷ moved_all f cs later

-- the cause holds nowhere
abbrev pub Absent : Cause → Type 0
Absent c = (position : ℕ) → c.HoldsAt position → ⊥

-- no cause of the row holds
abbrev pub NoCause : List Cause → Type 0
NoCause [] = Unit {0}
NoCause (c ∷ cs) = Absent c × NoCause cs

-- the first cause of the row that holds has this number and holds at this position
abbrev pub FirstCause : List Cause → ℕ → ℕ → Type 0
FirstCause [] number position = ⊥
FirstCause (c ∷ cs) number position = ((c.number ≡ number) × c.HoldsAt position) ⊎ (Absent c × FirstCause cs number position)

-- the causes settle the outcome: it is refused exactly as the first cause that holds says, and done exactly if none holds, with the given count
pub record Settles (causes : List Cause) (count : ℕ) (outcome : Outcome) : Type 0 where
  pub refuses : (number position : ℕ) → (outcome ≡ refused number position) ↔ FirstCause causes number position
  pub succeeds : (n : ℕ) → (outcome ≡ done n) ↔ (NoCause causes × (n ≡ count))
