-- The rule that lq-- is first, byte by byte, holds exactly where the prefix is found.
use Prim.Native.Nat.{ℕ, ◌≤◌, ◌<◌}
use mathlib.Core.Path.{◌≡◌, refl, sym, ap, ◌∙◌}
use mathlib.Core.Bool.{true}
use mathlib.Core.Logic.{◌↔◌}
use mathlib.Core.List.{List, map}
use lib.Dec.{eqb}
use lib.ListN.{length}
use borrow.Author.Tests.{le-leb, eqb-true, eq-eqb}
use native.Mathlib.Omega.{arith}
use Rattle.basis.specs.Tests.{both, within}
use Rattle.basis.specs.Rows.{at}
use Rattle.basis.proofs.Tests.{by-lt, both_true, both_right, at_each, each_at}
use Rattle.basis.proofs.Lists.{at-past}
use Rattle.ascii.specs.Case.{is_capital, small}
use Rattle.ascii.specs.Prefix.{has_prefix}
use Rattle.ascii.proofs.Case.{at_small}
use Rattle.lace_format.specs.Prefix.{prefix}

pub prefix-is-small : map small prefix ≡ prefix
unfolding small is_capital within both
prefix-is-small = refl

small_at : (i : ℕ) → small (at prefix i) ≡ at prefix i
small_at i = sym (at_small prefix i) ∙ ap (λ (row : List ℕ). at row i) prefix-is-small

-- a row with these four bytes has four at least, since what is past its end is 0
four-long : (l : List ℕ) → small (at l 3) ≡ 45 → 4 ≤ length l
unfolding small is_capital within both
four-long l e =
    by-lt (length l) 4
    (λ h. let past : at l 3 ≡ 0 = at-past l 3 (omega arith) in
    let zero : 0 ≡ 45 = ap small (sym past) ∙ e in absurd (omega arith))
    (λ h. h)

pub prefix-iff : (l : List ℕ) → (has_prefix prefix l ≡ true) ↔ ((i : ℕ) → i < 4 → small (at l i) ≡ at prefix i)
unfolding has_prefix
prefix-iff l = (
  λ has i h. eqb-true _ _ (at_each 4 (λ k. eqb (small (at l k)) (small (at prefix k))) (both_right _ _ has) i h) ∙ small_at i,
  λ first. both_true (le-leb 4 (length l) (four-long l (first 3 (omega arith))))
      (each_at 4 (λ k. eqb (small (at l k)) (small (at prefix k))) (λ i h. eq-eqb _ _ (first i h ∙ sym (small_at i)))),
)
