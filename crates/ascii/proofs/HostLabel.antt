-- Laws on host labels: each test that fails answers no, where the others pass LDH decides, and what a host label has.
use Prim.Native.Nat.{ℕ, ◌≤◌, ◌<◌}
use mathlib.Core.Path.{◌≡◌, refl, sym, ap, ◌∙◌}
use mathlib.Core.Bool.{Bool, true, false, not}
use mathlib.Core.List.{List}
use lib.ListN.{length, length-map}
use borrow.Author.Tests.{not-true}
use native.Mathlib.Omega.{arith}
use Rattle.basis.specs.Tests.{both}
use Rattle.basis.proofs.Tests.{cases, both_left, both_right, both_false, within-true, within-below, within-above, within_low, within-high}
use Rattle.ascii.specs.Ldh.{is_all_ldh, has_edge_hyphen, is_host_label}

-- three tests: one of the last two fails, or the first decides
module _ (a b c : Bool) where
  second-fails : b ≡ false → both a (both b c) ≡ false
  unfolding both
  second-fails e = rw e (both_false a)

  third-fails : c ≡ false → both a (both b c) ≡ false
  third-fails e = rw (e, both_false b) (both_false a)

  first-decides : b ≡ true → c ≡ true → both a (both b c) ≡ a
  unfolding both
  first-decides e d = rw (e, d) (cases a (λ f. rw f) (λ f. rw f))

module _ (xs : List ℕ) where
  pub host-label-empty : length xs ≡ 0 → false ≡ is_host_label xs
  unfolding is_host_label
  host-label-empty e = sym (second-fails _ _ _ (within-below _ _ _ (omega arith)))

  pub host-label-long : 63 < length xs → false ≡ is_host_label xs
  unfolding is_host_label
  host-label-long h = sym (second-fails _ _ _ (within-above _ _ _ (omega arith)))

  -- by the test of the edges
  module _ (edge : Bool) (edge_is : edge ≡ has_edge_hyphen xs) where
    pub host-label-edge : edge ≡ true → false ≡ is_host_label xs
    unfolding is_host_label
    host-label-edge e = sym (third-fails _ _ _ (ap not (sym edge_is ∙ e)))

    pub host-label-ldh : edge ≡ false → 1 ≤ length xs → length xs ≤ 63 → is_all_ldh xs ≡ is_host_label xs
    unfolding is_host_label
    host-label-ldh e some short = sym (first-decides _ _ _ (within-true _ _ _ (omega arith) (omega arith)) (ap not (sym edge_is ∙ e)))

-- what a host label has, and all that it takes to be one
pub record HostLabel (xs : List ℕ) : Type 0 where
  pub ldh : is_all_ldh xs ≡ true
  pub some : 1 ≤ length xs
  pub short : length xs ≤ 63
  pub edges : has_edge_hyphen xs ≡ false

pub is-host : (xs : List ℕ) → is_host_label xs ≡ true → HostLabel xs
unfolding is_host_label
is-host xs e =
    let more = both_right (is_all_ldh xs) _ e in
    let long = both_left _ (not (has_edge_hyphen xs)) more in
    record {
      ldh = both_left (is_all_ldh xs) _ e;
      some = within_low 1 63 (length xs) long;
      short = within-high 1 63 (length xs) long;
      edges = not-true _ (both_right _ (not (has_edge_hyphen xs)) more);
    }

pub host-is : (xs : List ℕ) → HostLabel xs → is_host_label xs ≡ true
host-is xs h = sym (host-label-ldh xs (has_edge_hyphen xs) refl h.edges h.some h.short) ∙ h.ldh

-- what the tests of a host label need
pub ruleset host_label_tests = (host-label-empty, host-label-long, host-label-edge, host-label-ldh, length-map)
