-- The causes of refusal of a receiver, whatever state it holds, in order.
use Rattle.std.specs.Prelude.{◌≡◌, List, [], ◌∷◌, take}
use Rattle.basis.specs.Outcome.{Outcome, done, refused}
use Rattle.basis.specs.Causes.{Cause, placed}
use Rattle.nametable_facts.specs.Causes.{size_causes}
use Rattle.nametable_receiver.specs.Receiving.{State}

-- by the verdict that is held on the entries so far: none, or its refusal, at its position alone
unfoldable pub held_causes : Outcome → List Cause
held_causes (done count) = []
held_causes (refused number position) = placed number (λ p. p ≡ position) ∷ []

-- against the verdict: the header, by those of its bytes that have come, and the length that its count
-- asks; then the refusal that is held
abbrev pub verdict_causes : State → List Cause
verdict_causes s = size_causes (take s.total s.header) s.total (held_causes s.judged)
