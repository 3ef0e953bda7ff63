-- A label is well formed exactly if it passes the tests.
use Prim.Native.Nat.{ℕ, ◌-◌, ◌≤◌}
use mathlib.Core.Path.{◌≡◌}
use mathlib.Core.Bool.{true, false}
use mathlib.Core.Logic.{inl, inr, ⊎_elim}
use mathlib.Core.List.{List, map}
use lib.ListN.{length}
use native.Mathlib.Omega.{arith}
use Rattle.basis.specs.Rows.{at}
use Rattle.basis.proofs.Tests.{cases, true-not-false, at_each, each_at, none-iff}
use Rattle.ascii.specs.Ldh.{has_edge_hyphen}
use Rattle.ascii.proofs.EdgeHyphen.{edges-iff}
use Rattle.altdude.specs.Symbols.{symbol_of, first_outside}
use Rattle.altdude.specs.Decoding.{is_readable}
use Rattle.altdude_facts.specs.WellFormed.{WellFormed}
use Rattle.altdude_facts.proofs.Items.{row-readable, readable_row}

-- a label passes the tests
pub record Passes (l : List ℕ) : Type 0 where
  pub some : length l ≡ 0 → ⊥
  pub short : length l ≤ 63
  pub inside : first_outside l ≡ length l
  pub edges : has_edge_hyphen l ≡ false
  pub readable : is_readable 96 0 (map symbol_of l) ≡ true

-- a well-formed label does
formed-edges : (l : List ℕ) → WellFormed l → has_edge_hyphen l ≡ false
formed-edges l w =
    let first : at l 0 ≡ 45 → ⊥ = w.first in
    let last : at l (length l - 1) ≡ 45 → ⊥ = w.last in
    cases (has_edge_hyphen l) (λ e. absurd (⊎_elim first last ((edges-iff l).0 e))) (λ e. e)

pub formed-passes : (l : List ℕ) → WellFormed l → Passes l
unfolding first_outside
formed-passes l w = record {
  some = λ e. omega (arith, w.some);
  short = omega (arith, w.short);
  inside = (none-iff _ _).1 (each_at _ _ w.characters);
  edges = formed-edges l w;
  readable = row-readable (map symbol_of l) w.row;
}

-- and a label that passes them is well formed
pub passes-formed : (l : List ℕ) → Passes l → WellFormed l
unfolding first_outside
passes-formed l p = record {
  some = omega (arith, p.some);
  short = p.short;
  characters = at_each _ _ ((none-iff _ _).0 p.inside);
  first = λ e. true-not-false ((edges-iff l).1 (inl e)) p.edges;
  last = λ e. true-not-false ((edges-iff l).1 (inr e)) p.edges;
  row = readable_row (map symbol_of l) p.readable;
}
