-- An LDH text of more than 63 points is no host label, and too long for LACE.
use Prim.Native.Nat.{ℕ, ◌≤◌, ◌<◌}
use mathlib.Core.Path.{◌≡◌, ap, sym}
use mathlib.Core.Bool.{true, not}
use mathlib.Core.List.{List}
use lib.ListN.{length}
use borrow.Author.Tests.{lt-ltb, le-ltb, le-leb, ne_eqb}
use native.Mathlib.Omega.{arith}
use Rattle.basis.specs.Rows.{at}
use Rattle.basis.specs.Outcome.{refused, refused_if}
use Rattle.basis.proofs.Tests.{by-lt, true-not-false, both_true, within-below, at_each, first-none}
use Rattle.ascii.specs.Ldh.{is_ldh, is_all_ldh, is_host_label}
use Rattle.ascii.proofs.Ldh.{ldh-above}
use Rattle.ascii.proofs.HostLabel.{host-label-long}
use Rattle.utf16.specs.Points.{is_point, first_not_point}
use Rattle.labels.specs.Tests.{text_tests}
use Rattle.lace_encoding.specs.Encoding.{label_of}
use Rattle.lace.specs.Answer.{encode_outcome}
use Rattle.lace_encoding.proofs.EncodeLaws.{text-long}

-- an LDH number is a point
ldh-point : (x : ℕ) → is_ldh x ≡ true → is_point x ≡ true
unfolding is_point
ldh-point x e =
    by-lt x 123
    (λ h. both_true (le-leb x 0x10ffff (omega arith)) (ap not (within-below 0xd800 0xdfff x (omega arith))))
    (λ h. absurd (true-not-false e (ldh-above x h)))

ldh-points : (t : List ℕ) → is_all_ldh t ≡ true → first_not_point t ≡ length t
unfolding is_all_ldh first_not_point
ldh-points t e = first-none (length t) _ (λ k h. ap not (ldh-point (at t k) (at_each _ _ e k h)))

pub long-ldh : (capacity : ℕ) (t : List ℕ) → 63 ≤ capacity → is_all_ldh t ≡ true → 63 < length t → encode_outcome is_host_label capacity t ≡ refused 3 0
unfolding encode_outcome text_tests refused_if
long-ldh capacity t room ldh long =
    let some : length t ≡ 0 → ⊥ = λ e. omega arith in
    rw (le-ltb capacity 63 room, ne_eqb (length t) 0 some, le-ltb (first_not_point t) (length t) (omega (arith, ldh-points t ldh)), sym (host-label-long t long), lt-ltb 63 (length (label_of t)) (text-long t (omega arith)))
