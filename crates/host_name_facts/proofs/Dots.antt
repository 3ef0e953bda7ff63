-- Laws on dots: which rows hold one.
use Prim.Native.Nat.{ℕ, ◌<◌}
use mathlib.Core.Path.{◌≡◌, sym, ◌∙◌}
use mathlib.Core.Bool.{false}
use mathlib.Core.List.{List, ◌∷◌}
use lib.Dec.{eqb}
use lib.ListN.{length}
use borrow.Author.Tests.{ltb-false, le-ltb}
use native.Mathlib.Omega.{arith}
use Rattle.basis.specs.Rows.{at}
use Rattle.basis.proofs.Tests.{cases, true-not-false, first-before, first-none}
use Rattle.host_name.specs.Parts.{dot, first_dot, has_dot}
use Rattle.host_name.proofs.Parts.{dot-first, dot-later}

-- the first element of a row without a dot is none, and the rest holds none
module _ (x : ℕ) (row : List ℕ) (h : has_dot (x ∷ row) ≡ false) where
  pub no-dot-first : eqb x dot ≡ false
  no-dot-first = cases (eqb x dot) (λ e. absurd (true-not-false (dot-first x row e) h)) (λ e. e)

  pub no-dot-later : has_dot row ≡ false
  no-dot-later = sym (dot-later x row no-dot-first) ∙ h

-- a row holds no dot exactly when none of its elements is one
pub no-dot-at : (row : List ℕ) → has_dot row ≡ false → (i : ℕ) → i < length row → eqb (at row i) dot ≡ false
unfolding has_dot first_dot
no-dot-at row h i g = first-before (length row) (λ k. eqb (at row k) dot) i (omega (arith, ltb-false (first_dot row) (length row) h))

pub at-no-dot : (row : List ℕ) → ((i : ℕ) → i < length row → eqb (at row i) dot ≡ false) → has_dot row ≡ false
unfolding has_dot first_dot
at-no-dot row none = le-ltb (first_dot row) (length row) (omega (arith, first-none (length row) (λ k. eqb (at row k) dot) none))
