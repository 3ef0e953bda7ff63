-- Laws on a row that a loop stores piece by piece.
use Prim.Native.Nat.{ℕ, zero, suc, ◌+◌, ◌*◌, ◌≤◌, ◌<◌}
use mathlib.Core.Path.{◌≡◌, ap, ◌∙◌}
use mathlib.Core.List.{List, [], ◌∷◌, ◌++◌}
use lib.ListN.{length, get_or, drop, length-append, drop_of_length-le}
use lib.Seq.{drop-cons}
use native.Mathlib.Nat.{mul-suc}
use native.Mathlib.Numerals.{add-one}
use native.Mathlib.Omega.{arith}
use Rattle.basis.proofs.Stores.{Storing, Stored, storing-all, storing-piece, storing-none}

-- a row of n pieces of at most `most` numbers each, by what is left of it from each index on
pub record Pieces (n most : ℕ) (piece rest : ℕ → List ℕ) : Type 0 where
  pub more : (i : ℕ) → i < n → rest i ≡ piece i ++ rest (i + 1)
  pub none : rest n ≡ []
  pub few : (i : ℕ) → length (piece i) ≤ most

-- the pieces before index i are stored before index at of the buffer, which was old, and what is
-- left is still to be stored
pub record Putting (n most : ℕ) (rest : ℕ → List ℕ) (old now : List ℕ) (at i : ℕ) : Type 0 where
  pub left : Storing old (rest 0) now at (rest i)
  pub inside : i ≤ n
  pub few : at ≤ most * i

module _ {n most : ℕ} {piece rest : ℕ → List ℕ} (p : Pieces n most piece rest) where
  length_from : (d i : ℕ) → i + d ≡ n → length (rest i) ≤ most * d
  length_from zero i e =
      let k : i ≡ n = omega arith in
      rw (k, p.none) (omega arith)
  length_from (suc d) i e =
      rw (p.more i (omega arith), mul-suc)
      (omega (arith, length-append (piece i) (rest (i + 1)), p.few i, length_from d (i + 1) (omega arith)))

  pub length-pieces : length (rest 0) ≤ most * n
  length-pieces = length_from n 0 (omega arith)

  pub putting-none : (old : List ℕ) → Putting n most rest old old 0 0
  putting-none old = record { left = storing-all old (rest 0); inside = omega arith; few = omega arith }

  module _ {old now : List ℕ} {at i : ℕ} (s : Putting n most rest old now at i) where
    pub putting-more : i < n → {more : List ℕ} {next : ℕ} → Stored now at (piece i) more next → Putting n most rest old more next (i + 1)
    putting-more h t = record {
      left = storing-piece s.left (p.more i h) t;
      inside = omega arith;
      few = rw (add-one, mul-suc) (omega (arith, t.count, s.few, p.few i));
    }

    pub putting-all : n ≤ i → most * n ≤ length old → (at ≡ length (rest 0)) × (now ≡ rest 0 ++ drop (length (rest 0)) old)
    putting-all h room =
        let k : i ≡ n = omega (arith, s.inside) in
        storing-none _ _ _ _ _ s.left (ap rest k ∙ p.none) (omega (arith, length-pieces))

-- the pieces of a function that makes a row element by element
pub each-pieces : (f : List ℕ → List ℕ) (piece : ℕ → List ℕ) (most : ℕ) → f [] ≡ [] → ((x : ℕ) (xs : List ℕ) → f (x ∷ xs) ≡ piece x ++ f xs)
    → ((x : ℕ) → length (piece x) ≤ most) → (xs : List ℕ) → Pieces (length xs) most (λ i. piece (get_or xs i 0)) (λ i. f (drop i xs))
each-pieces f piece most none more few xs = record {
  more = λ i h. ap f (drop-cons xs i 0 h) ∙ more (get_or xs i 0) (drop (suc i) xs) ∙ rw add-one;
  none = ap f (drop_of_length-le xs {i = length xs} (omega arith)) ∙ none;
  few = λ i. few (get_or xs i 0);
}
