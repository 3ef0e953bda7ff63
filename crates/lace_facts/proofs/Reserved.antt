-- What LACE keeps back: host labels. The other laws ask of it only that it says the same of a text and of its units.
use Prim.Native.Nat.{ℕ}
use mathlib.Core.Path.{◌≡◌, refl, ap, ◌∙◌}
use mathlib.Core.Bool.{Bool, true}
use mathlib.Core.List.{List, [], ◌∷◌}
use native.Mathlib.Omega.{arith}
use Rattle.basis.specs.Tests.{both, every}
use Rattle.basis.proofs.Tests.{cases, by-lt, true-not-false, both_left, both_right}
use Rattle.ascii.specs.Ldh.{is_ldh, is_all_ldh, is_host_label}
use Rattle.ascii.proofs.Ldh.{ldh-above}
use Rattle.utf16.specs.Units.{to_units, high_of}
use Rattle.utf16.proofs.Surrogates.{units_small, units-big}

-- the predicate that the rules of form and the causes name
abbrev pub reserved : List ℕ → Bool
reserved = is_host_label

-- a text is LDH exactly if its units are: an LDH number is its own unit, and a high surrogate is none
units-ldh : (t : List ℕ) → is_all_ldh (to_units t) ≡ is_all_ldh t
unfolding is_all_ldh every both to_units
units-ldh [] = refl
units-ldh (p ∷ t) =
    by-lt p 0x10000
    (λ h. rw (units_small p (to_units t) h) (ap (both (is_ldh p)) (units-ldh t)))
    (λ h. rw (units-big p (to_units t) h, ldh-above (high_of p) (omega arith), ldh-above p (omega arith)))

-- and then they are the text itself
ldh-units : (t : List ℕ) → is_all_ldh t ≡ true → to_units t ≡ t
unfolding is_all_ldh every to_units
ldh-units [] e = refl
ldh-units (p ∷ t) e =
    by-lt p 0x10000
    (λ h. units_small p (to_units t) h ∙ ap (λ (us : List ℕ). p ∷ us) (ldh-units t (both_right _ _ e)))
    (λ h. absurd (true-not-false (both_left _ _ e) (ldh-above p (omega arith))))

-- so a text is a host label exactly if its units are
pub reserved-units : (t : List ℕ) → reserved (to_units t) ≡ reserved t
unfolding is_host_label both
reserved-units t = cases (is_all_ldh t) (λ e. ap is_host_label (ldh-units t e)) (λ e. rw (units-ldh t, e))
