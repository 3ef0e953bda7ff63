-- The causes settle the verdict of a receiver, whatever state it holds.
use mathlib.Core.Path.{◌≡◌, refl}
use mathlib.Core.Bool.{true}
use lib.ListN.{take}
use Rattle.basis.specs.Outcome.{Outcome, done, refused, refused_if, count_of}
use Rattle.basis.specs.Causes.{placed, Settles}
use Rattle.basis.proofs.Tests.{true-not-false}
use Rattle.basis.proofs.Causes.{settle-done, settle-if}
use Rattle.nametable_format.specs.Format.{header_kind}
use Rattle.nametable_facts.proofs.Settled.{header-settled, length-settled}
use Rattle.nametable_receiver.specs.Receiving.{State, verdict_of}
use Rattle.nametable_receiver_facts.specs.Causes.{held_causes, verdict_causes}

-- the verdict that is held
held-settled : (o : Outcome) → Settles (held_causes o) (count_of o) o
unfolding held_causes count_of refused_if
held-settled (done n) = settle-done n
held-settled (refused number position) =
    settle-if true (placed number (λ p. p ≡ position)) position {next = done 0} (λ _. refl) (λ p at. (refl, at)) (λ e. absurd (true-not-false refl e))

pub verdict-settled : (s : State) → Settles (verdict_causes s) (count_of s.judged) (verdict_of s)
unfolding verdict_of
verdict-settled s = header-settled header_kind (take s.total s.header) (length-settled _ _ (held-settled s.judged))
