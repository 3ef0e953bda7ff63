-- Laws on the scheme number: the first test of both functions, and which numbers it refuses.
use Rattle.std.proofs.Common.{Option, Some, None, Result, Ok, Err}
use Rattle.std.specs.Option.{ok_or}
use Prim.Native.Nat.{ℕ}
use mathlib.Core.Path.{◌≡◌, sym, ap, ◌∙◌}
use mathlib.Core.Bool.{true, not}
use mathlib.Core.Logic.{◌↔◌}
use lib.Dec.{eqb}
use borrow.Author.Tests.{eqb-true, eqb-false, not-true}
use Rattle.basis.specs.Outcome.{Outcome, refused, refused_if}
use Rattle.basis.specs.declared.Refusal.{Refusal}
use Rattle.basis.proofs.Tests.{cases, true-not-false}
use Rattle.basis.proofs.Outcome.{stop-if, pass-if}
use Rattle.scheme.specs.Naming.{number_of, own_number_names, number_names, is_known, scheme_named}
use Rattle.scheme.specs.declared.Scheme.{Scheme}
use Rattle.scheme.proofs.Naming.{names-none-iff, zero-known}
use Rattle.firmware.specs.Causes.{UnknownNumber}

-- the refusal of an answer, or the other one
abbrev refusal_of : Refusal → Result Scheme Refusal → Refusal
refusal_of other (Ok s) = other
refusal_of other (Err refusal) = refusal

-- what a number names, by the directory's answer
module _ (number : ℕ) (named : Option Scheme) (is : named ≡ number_names number) where
  pub stop-unknown : (next : Outcome) → named ≡ None → refused_if (not (is_known (number_names number))) 11 0 next ≡ refused 11 0
  unfolding is_known
  stop-unknown next e = stop-if 11 0 next _ (rw (← is, e))

  pub given-unknown : {refusal given : Refusal} {answer : Result Scheme Refusal} → named ≡ None → answer ≡ ok_or named refusal → answer ≡ Err given → given ≡ refusal
  given-unknown {refusal} e by handed = ap (refusal_of refusal) (sym handed ∙ by ∙ ap (λ (o : Option Scheme). ok_or o refusal) e)

  pub pass-known : (next : Outcome) (s : Scheme) → named ≡ Some s → refused_if (not (is_known (number_names number))) 11 0 next ≡ next
  unfolding is_known
  pass-known next s e = pass-if 11 0 next _ (rw (← is, e))

  pub known_is : (s : Scheme) → named ≡ Some s → s ≡ scheme_named (number_names number)
  unfolding scheme_named
  known_is s e = rw (← is, e)

-- the test refuses exactly the numbers that are neither 0 nor any scheme's
pub unknown-iff : (number : ℕ) → (not (is_known (number_names number)) ≡ true) ↔ UnknownNumber number
unfolding number_names own_number_names
unknown-iff number =
    let own = names-none-iff number_of number in
    cases (eqb number 0)
    (λ z. let is = eqb-true number 0 z in (λ e. absurd (true-not-false zero-known (not-true _ (rw is at e))), λ u. absurd (u.0 is)))
    (λ z. (λ e. (eqb-false number 0 z, own.0 (rw z at e)), λ u. rw z (own.1 u.1)))
