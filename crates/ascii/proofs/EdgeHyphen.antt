-- Laws on hyphens at an edge: the tests of the first and of the last element, and functions that
-- keep the edges of a row.
use Prim.Native.Nat.{ℕ, suc, ◌-◌}
use mathlib.Core.Path.{◌≡◌, refl, sym, ap, ap₂, ◌∙◌}
use mathlib.Core.Bool.{true, false, ◌||◌, or-true}
use mathlib.Core.Logic.{◌↔◌, ◌⊎◌, inl, inr}
use mathlib.Core.List.{List, [], ◌∷◌, map}
use lib.Dec.{eqb}
use lib.ListN.{length, length-map}
use borrow.Author.Tests.{eqb-true, eqb-false, eq-eqb, ne_eqb}
use native.Mathlib.Omega.{arith}
use Rattle.std.proofs.Common.{Option}
use Rattle.std.specs.List.{slice_get}
use Rattle.std.specs.Option.{unwrap_or, option_map}
use Rattle.std.proofs.lemmas.Option.{slice_get-map, unwrap_or-slice_get}
use Rattle.basis.specs.Rows.{at}
use Rattle.basis.proofs.Tests.{cases, by-lt}
use Rattle.ascii.specs.Case.{small}
use Rattle.ascii.specs.Ldh.{has_edge_hyphen}
use Rattle.ascii.proofs.Case.{small-inside, small-below, small-above}

-- the numbers of elements: what is read of a row at an index, and at its end
module _ {A : Type 0} (number : A → ℕ) (xs : List A) (o : Option A) (n : ℕ) (number_is : n ≡ unwrap_or (option_map number o) 0) where
  pub number_at : (i : ℕ) → o ≡ slice_get xs i → n ≡ at (map number xs) i
  number_at i e =
      number_is ∙ ap (λ (r : Option ℕ). unwrap_or r 0) (ap (option_map number) e ∙ sym (slice_get-map number xs i)) ∙ unwrap_or-slice_get (map number xs) i 0

  pub number_last : o ≡ slice_get xs (length xs - 1) → n ≡ at (map number xs) (length (map number xs) - 1)
  number_last e = rw (length-map xs number) (number_at (length xs - 1) e)

pub edge-first : (xs : List ℕ) → at xs 0 ≡ 45 → true ≡ has_edge_hyphen xs
unfolding has_edge_hyphen
edge-first xs e = rw (eq-eqb (at xs 0) 45 e)

pub edge-last : (xs : List ℕ) → (at xs 0 ≡ 45 → ⊥) → eqb (at xs (length xs - 1)) 45 ≡ has_edge_hyphen xs
unfolding has_edge_hyphen
edge-last xs n = rw (ne_eqb (at xs 0) 45 n)

-- the test holds exactly where the first or the last is a hyphen
pub edges-iff : (l : List ℕ) → (has_edge_hyphen l ≡ true) ↔ ((at l 0 ≡ 45) ⊎ (at l (length l - 1) ≡ 45))
unfolding has_edge_hyphen
edges-iff l = (there (at l 0) (at l (length l - 1)), back (at l 0) (at l (length l - 1)))
  where
    there : (x y : ℕ) → (eqb x 45 || eqb y 45) ≡ true → (x ≡ 45) ⊎ (y ≡ 45)
    there x y e = cases (eqb x 45) (λ f. inl (eqb-true x 45 f)) (λ f. inr (eqb-true y 45 (rw f at e)))

    back : (x y : ℕ) → (x ≡ 45) ⊎ (y ≡ 45) → (eqb x 45 || eqb y 45) ≡ true
    back x y (inl f) = rw (eq-eqb x 45 f)
    back x y (inr f) = rw (eq-eqb y 45 f) (or-true (eqb x 45))

-- f makes a hyphen of a hyphen alone
abbrev pub KeepsHyphen : (ℕ → ℕ) → Type 0
KeepsHyphen f = (x : ℕ) → eqb (f x) 45 ≡ eqb x 45

pub keeps-hyphen : (f : ℕ → ℕ) → f 45 ≡ 45 → ((x : ℕ) → eqb x 45 ≡ false → f x ≡ 45 → ⊥) → KeepsHyphen f
keeps-hyphen f same other x =
    cases (eqb x 45)
    (λ e. rw (eqb-true x 45 e, same))
    (λ e. rw e (ne_eqb (f x) 45 (other x e)))

pub small-keeps-hyphen : KeepsHyphen small
small-keeps-hyphen =
    keeps-hyphen small (small-below 45 (omega arith))
    (λ b e q.
    by-lt b 65
    (λ h. eqb-false b 45 e (sym (small-below b h) ∙ q))
    (λ h. by-lt 90 b (λ g. omega (arith, small-above b g)) (λ g. omega (arith, small-inside b h g))))

-- the last of x and the row
abbrev pub last_of : ℕ → List ℕ → ℕ
last_of x l = at (x ∷ l) (length l)

last-is : (l : List ℕ) → at l (length l - 1) ≡ last_of 0 l
last-is [] = refl
last-is (x ∷ l) = let e : suc (length l) - 1 ≡ length l = omega arith in rw e

-- rows whose first and last are hyphens together
pub edges-alike : (k l : List ℕ) → eqb (at k 0) 45 ≡ eqb (at l 0) 45 → eqb (last_of 0 k) 45 ≡ eqb (last_of 0 l) 45 → has_edge_hyphen k ≡ has_edge_hyphen l
unfolding has_edge_hyphen
edges-alike k l first last = rw (last-is k, last-is l) (ap₂ ◌||◌ first last)

-- a function that makes a hyphen of a hyphen alone keeps the edges
pub edges-map : (f : ℕ → ℕ) → KeepsHyphen f → (l : List ℕ) → has_edge_hyphen (map f l) ≡ has_edge_hyphen l
edges-map f keeps l = edges-alike (map f l) l (first l) (last l 0 0 refl)
  where
    first : (l : List ℕ) → eqb (at (map f l) 0) 45 ≡ eqb (at l 0) 45
    first [] = refl
    first (x ∷ l) = keeps x

    last : (l : List ℕ) (d c : ℕ) → eqb d 45 ≡ eqb c 45 → eqb (last_of d (map f l)) 45 ≡ eqb (last_of c l) 45
    last [] d c h = h
    last (x ∷ l) d c h = last l (f x) x (keeps x)
