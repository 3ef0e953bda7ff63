-- The choice of a half-row, as the loop and the chains compute it.
use Prim.Native.Nat.{ℕ, ◌+◌, ◌-◌, ◌*◌, ◌/◌, ◌≤◌, ◌<◌}
use mathlib.Core.Path.{◌≡◌, refl, ap, ap₂, ◌∙◌}
use mathlib.Core.Bool.{Bool, true, false, cond}
use mathlib.Core.List.{List, [], ◌∷◌}
use lib.Dec.{eqb, ltb}
use lib.ListN.{length, drop, get_or, drop_of_length-le}
use lib.Seq.{drop-cons}
use Rattle.std.specs.Prelude.{count_by}
use Rattle.std.specs.Int.{from_bool}
use Rattle.std.specs.List.{fold}
use Rattle.std.proofs.lemmas.List.Sums.{sum_by-cons}
use borrow.Author.Tests.{eq-eqb, ne_eqb, eqb-true, lt-ltb, le-ltb}
use native.Mathlib.Numerals.{add-one}
use native.Mathlib.Omega.{arith}
use Rattle.basis.specs.Tests.{pick, both}
use Rattle.basis.proofs.Tests.{cases}
use Rattle.brace_format.specs.Style.{other_half}
use Rattle.brace_choice.specs.Choice.{count_in, mixed_cost, is_better, best_of}

-- the codes of a half-row, counted by a test
pub counted : (h : ℕ) (codes : List ℕ) → count_by (λ c. eqb (c / 128) h) codes ≡ count_in h codes
unfolding count_in
counted h [] = refl
counted h (c ∷ codes) = sum_by-cons (λ x. cond (eqb (x / 128) h) 1 0) c codes ∙ ap₂ ◌+◌ (once (eqb (c / 128) h)) (counted h codes)
  where
    once : (b : Bool) → ◌≡◌ {A = ℕ} (cond b 1 0) (pick b 1 0)
    once true = refl
    once false = refl

-- a code counts 1 in its half-row, else 0
module _ (h c r : ℕ) (is : r ≡ from_bool (eqb (c / 128) h)) where
  pub one_code : r ≡ count_in h (c ∷ [])
  unfolding count_in
  one_code = is ∙ cases (eqb (c / 128) h) (λ t. rw t) (λ f. rw f)

  pub one-most : r ≤ 1
  one-most = rw is (cases (eqb (c / 128) h) (λ t. rw t (omega arith)) (λ f. rw f (omega arith)))

-- n codes of the half-row are counted, those from i on are left
pub record Counting (h : ℕ) (codes : List ℕ) (n i : ℕ) : Type 0 where
  pub total : count_in h codes ≡ n + count_in h (drop i codes)
  pub most : n ≤ i
  pub inside : i ≤ length codes

pub counting-start : (h : ℕ) (codes : List ℕ) → Counting h codes 0 0
counting-start h codes = record { total = omega arith; most = omega arith; inside = omega arith }

module _ {h : ℕ} {codes : List ℕ} {n i : ℕ} (p : Counting h codes n i) where
  pub counting-turn : i < length codes → (r : ℕ) → r ≡ count_in h (get_or codes i 0 ∷ []) → r ≤ 1 → Counting h codes (n + r) (i + 1)
  unfolding count_in
  counting-turn l r e b = record { total = p.total ∙ rw (drop-cons codes i 0 l, add-one) (omega (arith, e)); most = omega (arith, p.most); inside = omega arith }

  pub counting-end : length codes ≤ i → (n ≡ count_in h codes) × (n ≤ length codes)
  unfolding count_in
  counting-end l =
      let e : count_in h (drop i codes) ≡ 0 = rw drop_of_length-le in
      (omega (arith, p.total), omega (arith, p.most, p.inside))

-- no half-row is the other one
other_differs : (h c : ℕ) → eqb (c / 128) h ≡ true → eqb (c / 128) (other_half h) ≡ false
unfolding other_half
other_differs h c e = ne_eqb (c / 128) _ (λ q. omega (arith, eqb-true (c / 128) h e))

bits-saved : (h : ℕ) (codes : List ℕ) → 10 * count_in h codes + 9 * count_in (other_half h) codes ≤ 18 * length codes
unfolding count_in
bits-saved h [] = omega arith
bits-saved h (c ∷ codes) =
    let r = bits-saved h codes in
    cases (eqb (c / 128) h)
    (λ e. rw (e, other_differs h c e) (omega arith))
    (λ n. cases (eqb (c / 128) (other_half h)) (λ e. rw (n, e) (omega arith)) (λ e. rw (n, e) (omega arith)))

-- the subtractions of M do not go below 0
pub cost-over : (codes : List ℕ) (half x y o : ℕ) → x ≡ count_in half codes → o ≡ other_half half → y ≡ count_in o codes → 10 * x + 9 * y ≤ 18 * length codes
cost-over codes half x y o ex eo ey =
    let e : y ≡ count_in (other_half half) codes = ey ∙ ap (λ (k : ℕ). count_in k codes) eo in
    omega (arith, bits-saved half codes)

pub cost-is : (codes : List ℕ) (half x y o : ℕ) → x ≡ count_in half codes → o ≡ other_half half → y ≡ count_in o codes → 3 + (18 * length codes - 10 * x - 9 * y) / 5 ≡ mixed_cost codes half
unfolding mixed_cost
cost-is codes half x y o ex eo ey = rw (ex, ey, eo)

module _ (codes : List ℕ) (g h x y : ℕ) (ex : x ≡ mixed_cost codes g) (ey : y ≡ mixed_cost codes h) where
  pub better-fewer : x < y → true ≡ is_better codes g h
  unfolding is_better
  better-fewer l = rw (← ex, ← ey, lt-ltb x y l)

  pub better-equal : y ≤ x → x ≡ y → ltb g h ≡ is_better codes g h
  unfolding is_better both
  better-equal l e = rw (← ex, ← ey, le-ltb x y l, eq-eqb x y e)

  pub better-more : y ≤ x → (x ≡ y → ⊥) → false ≡ is_better codes g h
  unfolding is_better both
  better-more l n = rw (← ex, ← ey, le-ltb x y l, ne_eqb x y n)

-- what `is_better` needs
pub ruleset better_rules = (better-fewer, better-equal, better-more)

-- the best, code by code
pub chosen : (codes : List ℕ) (h : ℕ) (candidates : List ℕ) → fold (λ best c. pick (is_better codes (c / 128) best) (c / 128) best) h candidates ≡ best_of codes h candidates
unfolding best_of
chosen codes h [] = refl
chosen codes h (c ∷ candidates) = chosen codes (pick (is_better codes (c / 128) h) (c / 128) h) candidates
