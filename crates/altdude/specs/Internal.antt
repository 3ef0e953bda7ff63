-- What one symbol does to the state of the reader; no public promise cites it.
use Rattle.std.specs.Prelude.{ℕ, ◌^◌, ◌<◌, ◌≡◌, true, false, List, [], ◌∷◌, eqb, ltb, Option, None, Some}
use Rattle.basis.specs.Tests.{pick}
use Rattle.altdude.specs.Decoding.{follows, next_remembered, next_pending, is_readable}
use Rattle.altdude.specs.declared.decoding.State.{State}

-- both numbers are within 21 bits
pub record Small (state : State) : Type 0 where
  pub remembered : state.remembered < 2 ^ 21
  pub pending : state.pending < 2 ^ 21

-- the symbol may follow, and this is the state after it
pub record Goes (state : State) (s : ℕ) (next : State) : Type 0 where
  pub may : follows state.remembered state.pending s ≡ true
  pub remembered_is : next.remembered ≡ next_remembered state.remembered state.pending s
  pub pending_is : next.pending ≡ next_pending state.pending s
  pub small : Small next

-- no row goes on with the symbol
abbrev pub Stops : State → ℕ → Type 0
Stops state s = (l : List ℕ) → is_readable state.remembered state.pending (s ∷ l) ≡ false

-- a step gives the next state, or no row goes on with this symbol
abbrev pub StepMeans : State → ℕ → Option State → Type 0
StepMeans state s (Some next) = Goes state s next
StepMeans state s None = Stops state s

-- what a symbol adds to the text, where the remembered number is the one after it
unfoldable pub adds_after : ℕ → ℕ → List ℕ
adds_after s remembered = pick (ltb s 16) (remembered ∷ []) (pick (eqb s 45) (45 ∷ []) [])
