-- LDH by the range of the number.
use Prim.Native.Nat.{ℕ, ◌≤◌, ◌<◌}
use mathlib.Core.Path.{◌≡◌, sym, ◌∙◌}
use mathlib.Core.Bool.{true, false}
use lib.Dec.{eqb, ltb}
use borrow.Author.Tests.{eq-eqb, ne_eqb, lt-ltb}
use native.Mathlib.Omega.{arith}
use Rattle.basis.proofs.Tests.{cases, within-true, within-below, within-above, within-from}
use Rattle.ascii.specs.Ldh.{is_ldh}

module _ (x : ℕ) where
  pub ldh-under : x < 48 → eqb x 45 ≡ is_ldh x
  unfolding is_ldh
  ldh-under h =
      rw (within-below 48 57 x h, within-below 65 90 x (omega arith), within-below 97 122 x (omega arith))
      (cases (eqb x 45) (λ e. rw e) (λ e. rw e))

  pub ldh-above : 123 ≤ x → is_ldh x ≡ false
  unfolding is_ldh
  ldh-above h = rw (ne_eqb x 45 (λ e. omega arith), within-above 48 57 x (omega arith), within-above 65 90 x (omega arith), within-above 97 122 x h)

  module _ (h : 48 ≤ x) where
    no-hyphen : eqb x 45 ≡ false
    no-hyphen = ne_eqb x 45 (λ e. omega arith)

    pub ldh-digit : x < 58 → true ≡ is_ldh x
    unfolding is_ldh
    ldh-digit g = rw (no-hyphen, within-true 48 57 x h (omega arith))

    pub ldh-between : 58 ≤ x → x < 65 → false ≡ is_ldh x
    unfolding is_ldh
    ldh-between g k = rw (no-hyphen, within-above 48 57 x g, within-below 65 90 x k, within-below 97 122 x (omega arith))

    pub ldh-capital : 65 ≤ x → x < 91 → true ≡ is_ldh x
    unfolding is_ldh
    ldh-capital g k = rw (no-hyphen, within-above 48 57 x (omega arith), within-true 65 90 x g (omega arith))

    pub ldh-below-a : 91 ≤ x → x < 97 → false ≡ is_ldh x
    unfolding is_ldh
    ldh-below-a g k = rw (no-hyphen, within-above 48 57 x (omega arith), within-above 65 90 x g, within-below 97 122 x k)

    pub ldh-small : 97 ≤ x → ltb x 123 ≡ is_ldh x
    unfolding is_ldh
    ldh-small g = rw (no-hyphen, within-above 48 57 x (omega arith), within-above 65 90 x (omega arith)) (within-from 97 122 x g)

  pub ldh-letter : 97 ≤ x → x ≤ 122 → true ≡ is_ldh x
  ldh-letter g k = sym (lt-ltb x 123 (omega arith)) ∙ ldh-small (omega arith) g

  -- below the digits
  pub ldh-hyphen : x ≡ 45 → true ≡ is_ldh x
  ldh-hyphen e = sym (eq-eqb x 45 e) ∙ ldh-under (omega arith)

  pub ldh-no-hyphen : (x ≡ 45 → ⊥) → x < 48 → false ≡ is_ldh x
  ldh-no-hyphen n h = sym (ne_eqb x 45 n) ∙ ldh-under h

-- what `is_ldh` needs
pub ruleset ldh_by_range = (ldh-hyphen, ldh-no-hyphen, ldh-digit, ldh-between, ldh-capital, ldh-below-a, ldh-letter, ldh-above)
