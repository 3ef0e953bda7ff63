-- Laws on the shared causes: what a text or a label has where none of them holds.
use Prim.Native.Nat.{ℕ, ◌≤◌}
use mathlib.Core.Path.{◌≡◌, refl, ap}
use mathlib.Core.Bool.{true, not}
use mathlib.Core.Logic.{◌↔◌}
use mathlib.Core.List.{List, [], ◌∷◌}
use lib.ListN.{length}
use native.Mathlib.Omega.{arith}
use Rattle.basis.specs.Causes.{Cause, whole, Absent, NoCause}
use Rattle.basis.proofs.Tests.{by-lt, true-not-false}
use Rattle.utf16.specs.Points.{is_text}
use Rattle.utf16.proofs.Refusals.{points-text}
use Rattle.utf16.proofs.Surrogates.{text_at}
use Rattle.labels.specs.Causes.{Empty, TooLong, text_causes}

-- 2 and 3 are absent exactly if there are elements, and at most 63
pub some-iff : (xs : List ℕ) → Absent (whole 2 (Empty xs)) ↔ (1 ≤ length xs)
some-iff xs = (λ a. by-lt 0 (length xs) (λ h. h) (λ h. absurd (a 0 (refl, omega arith))), λ h p e. omega (arith, h, e.1))

pub short-iff : (l : List ℕ) → Absent (whole 3 (TooLong l)) ↔ (length l ≤ 63)
short-iff l = (λ a. by-lt 63 (length l) (λ h. absurd (a 0 (refl, h))) (λ h. h), λ h p e. omega (arith, h, e.1))

-- a text of one point or more, and a label of at most 63 bytes
pub record TextAndLabel (t label : List ℕ) : Type 0 where
  pub some : 1 ≤ length t
  pub text : is_text t ≡ true
  pub short : length label ≤ 63

-- a text may be written exactly if it is one, its label is short, and the scheme's own cause does not hold
pub writable-iff : (own : Cause) (t label : List ℕ) → NoCause (text_causes t (own ∷ whole 3 (TooLong label) ∷ [])) ↔ (TextAndLabel t label × Absent own)
writable-iff own t label = (
  λ n. (record { some = (some-iff t).0 n.0; text = points-text t n.1.0; short = (short-iff label).0 n.1.1.1.0 }, n.1.1.0),
  λ (w, absent). ((some-iff t).1 w.some, (λ i f. true-not-false f.here (ap not (text_at t i w.text f.inside)), (absent, ((short-iff label).1 w.short, tt)))),
)
