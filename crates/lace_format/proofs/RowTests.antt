-- What the count of runs needs: the changes of high octet between neighbours.
use Prim.Native.Nat.{ℕ, ◌+◌, ◌/◌, ◌≤◌, ◌<◌}
use mathlib.Core.Path.{◌≡◌, refl, ◌∙◌}
use mathlib.Core.Bool.{not}
use mathlib.Core.List.{List, [], ◌∷◌}
use lib.Dec.{eqb}
use lib.ListN.{length, take, drop}
use native.Mathlib.Omega.{arith}
use Rattle.std.specs.Int.{from_bool}
use Rattle.basis.specs.Rows.{at}
use Rattle.basis.proofs.Tests.{cases}
use Rattle.lace_format.specs.Octets.{change_between, changes, run_count}

-- two neighbours
pub change_is : (before u n : ℕ) → n ≡ from_bool (not (eqb (before / 256) (u / 256))) → n ≡ change_between before u
unfolding change_between
change_is before u n is = is ∙ cases (eqb (before / 256) (u / 256)) (λ t. rw t) (λ f. rw f)

-- the runs of units: none, the first, one neighbour more, all
pub count_none : (us : List ℕ) → length us ≡ 0 → 0 ≡ run_count us
unfolding run_count
count_none [] e = refl
count_none (u ∷ us) e = absurd (omega arith)

pub count-first : (us : List ℕ) → (length us ≡ 0 → ⊥) → run_count us ≡ 1 + changes (at us 0) (drop 1 us)
unfolding run_count
count-first [] n = absurd (n refl)
count-first (u ∷ us) n = omega arith

-- a pair of neighbours is the first two of the units from it on
module _ (size : ℕ) (two : size ≡ 2) where
  pub count_turn : (us pair more : List ℕ) → size ≤ length us → pair ≡ take size us → more ≡ drop 1 us
      → (c : ℕ) → c ≡ change_between (at pair 0) (at pair 1) → changes (at us 0) (drop 1 us) ≡ c + changes (at more 0) (drop 1 more)
  unfolding changes
  count_turn [] pair more h p m c q = absurd (omega arith)
  count_turn (u ∷ []) pair more h p m c q = absurd (omega arith)
  count_turn (u ∷ v ∷ us) pair more h p m c q = let e : pair ≡ u ∷ v ∷ [] = rw (p, two) in rw (q, e, m)

  pub count-all : (us : List ℕ) → length us < size → changes (at us 0) (drop 1 us) ≡ 0
  unfolding changes
  count-all [] h = refl
  count-all (u ∷ []) h = refl
  count-all (u ∷ v ∷ us) h = absurd (omega arith)
