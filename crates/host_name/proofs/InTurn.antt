-- Laws on parts that are answered in turn: what follows them is answered exactly if each is done.
use Prim.Native.Nat.{ℕ, suc}
use mathlib.Core.Path.{◌≡◌, refl, ◌∙◌}
use mathlib.Core.List.{List, [], ◌∷◌}
use Rattle.basis.specs.Outcome.{Outcome, done, refused}
use Rattle.basis.proofs.Outcome.{done-not-refused, IsDone, after-done, refusal-carried, both-done}
use Rattle.host_name.specs.Answer.{in_turn}

-- each part is done
abbrev pub AllDone : (List ℕ → Outcome) → List (List ℕ) → Type 0
AllDone answer [] = Unit {0}
AllDone answer (part ∷ parts) = IsDone (answer part) × AllDone answer parts

module _ (answer : List ℕ → Outcome) (next : Outcome) where
  -- where the parts and what follows them are done, each part is done and what follows them too
  pub in-turn-done : (index : ℕ) (parts : List (List ℕ)) {n : ℕ} → in_turn answer index parts next ≡ done n → AllDone answer parts × (next ≡ done n)
  unfolding in_turn
  in-turn-done index [] e = (tt, e)
  in-turn-done index (part ∷ parts) e =
      let (first, others) = both-done (λ _. index) (answer part) (in_turn answer (suc index) parts next) e in
      let (all, last) = in-turn-done (suc index) parts others in
      ((first, all), last)

  -- where each part is done, what follows them is answered
  pub done-in-turn : (index : ℕ) (parts : List (List ℕ)) → AllDone answer parts → in_turn answer index parts next ≡ next
  unfolding in_turn
  done-in-turn index [] all = refl
  done-in-turn index (part ∷ parts) all =
      after-done (λ _. index) (answer part) (in_turn answer (suc index) parts next) all.0 ∙ done-in-turn (suc index) parts all.1

  -- where what follows them is done, a refusal is the parts' own, whatever else may follow
  pub in-turn-refused : (index : ℕ) (parts : List (List ℕ)) (other : Outcome) {count number position : ℕ} → next ≡ done count
      → in_turn answer index parts next ≡ refused number position → in_turn answer index parts other ≡ refused number position
  unfolding in_turn
  in-turn-refused index [] other l e = absurd (done-not-refused l e)
  in-turn-refused index (part ∷ parts) other l e = refusal-carried (λ _. index) (answer part) (in-turn-refused (suc index) parts other l) e
