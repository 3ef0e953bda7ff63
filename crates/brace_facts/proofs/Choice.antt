-- Which style is chosen: half-row and row style exactly if all codes are in one; the half-row of mixed
-- style is used, has the least M of those used, and is the lowest of them on ties; and mixed style is
-- chosen over no-row style exactly if it takes fewer characters.
use Prim.Native.Nat.{ℕ, suc, ◌/◌, ◌≤◌, ◌<◌}
use mathlib.Core.Path.{◌≡◌, refl, sym, ◌∙◌, ap}
use mathlib.Core.Bool.{true, false, Bool}
use mathlib.Core.Logic.{◌↔◌, ◌⊎◌, inl, inr, ⊎_elim}
use mathlib.Core.List.{List, [], ◌∷◌}
use lib.Dec.{eqb, ltb}
use lib.ListN.{length}
use borrow.Author.Tests.{ltb-true, ltb-false, eqb-true, eq-eqb}
use native.Mathlib.Omega.{arith}
use Rattle.basis.specs.Tests.{every_in, pick, both}
use Rattle.basis.specs.Rows.{at}
use Rattle.basis.proofs.Tests.{cases, both_left, both_right, from_first, at_each, each_at, true-not-false}
use Rattle.brace_choice.specs.Choice.{style_for, mixed_or_no_row, no_row_cost, mixed_cost, is_better, best_of}
use Rattle.brace_format.specs.declared.style.Style.TheVariants.{Mixed, HalfRow, Row, NoRow}
use Rattle.brace_format.specs.declared.style.Style.{Style}
use Rattle.brace_facts.specs.Choice.{BestHalf, AllIn}

module _ (all : List ℕ) where
  -- h is as good as g: no more characters, and if as many, no higher
  abbrev AsGood : ℕ → ℕ → Type 0
  AsGood h g = (mixed_cost all h ≤ mixed_cost all g) × (mixed_cost all h ≡ mixed_cost all g → h ≤ g)

  as-good-self : (h : ℕ) → AsGood h h
  as-good-self h = (omega arith, λ e. omega arith)

  as-good-trans : (h g f : ℕ) → AsGood h g → AsGood g f → AsGood h f
  as-good-trans h g f a b = (
    omega (arith, a.0, b.0),
    λ e. let p : mixed_cost all h ≡ mixed_cost all g = omega (arith, a.0, b.0) in
        let q : mixed_cost all g ≡ mixed_cost all f = omega (arith, a.0, b.0) in
        omega (arith, a.1 p, b.1 q),
  )

  better-good : (g h : ℕ) → is_better all g h ≡ true → AsGood g h
  unfolding is_better
  better-good g h e =
      cases (ltb (mixed_cost all g) (mixed_cost all h))
      (λ l. let m : mixed_cost all g < mixed_cost all h = ltb-true _ _ l in (omega arith, λ q. absurd (omega arith)))
      (λ l.
      let d : both (eqb (mixed_cost all g) (mixed_cost all h)) (ltb g h) ≡ true = rw l at e in
      let q : mixed_cost all g ≡ mixed_cost all h = eqb-true _ _ (both_left _ _ d) in
      let m : g < h = ltb-true _ _ (both_right _ _ d) in
      (omega arith, λ z. omega arith))

  not-better-good : (g h : ℕ) → is_better all g h ≡ false → AsGood h g
  unfolding is_better both
  not-better-good g h e =
      cases (ltb (mixed_cost all g) (mixed_cost all h))
      (λ l. absurd (true-not-false refl (rw l at e)))
      (λ l. (ltb-false _ _ l, λ q. ltb-false g h (rw (l, eq-eqb _ _ (sym q)) at e)))

  -- the better of two is as good as both
  winner-good : (g h : ℕ) → AsGood (pick (is_better all g h) g h) g × AsGood (pick (is_better all g h) g h) h
  winner-good g h =
      cases (is_better all g h)
      (λ e. rw e (as-good-self g, better-good g h e))
      (λ e. rw e (not-better-good g h e, as-good-self h))

  -- the best is as good as the first, and as all others
  best-first : (h : ℕ) (cs : List ℕ) → AsGood (best_of all h cs) h
  unfolding best_of
  best-first h [] = as-good-self h
  best-first h (c ∷ cs) = as-good-trans _ _ h (best-first (pick (is_better all (c / 128) h) (c / 128) h) cs) (winner-good (c / 128) h).1

  best-others : (h : ℕ) (cs : List ℕ) (i : ℕ) → i < length cs → AsGood (best_of all h cs) (at cs i / 128)
  unfolding best_of
  best-others h [] i l = absurd (omega arith)
  best-others h (c ∷ cs) i l =
      from_first (λ i. AsGood (best_of all h (c ∷ cs)) (at (c ∷ cs) i / 128)) (length cs)
      (as-good-trans _ _ (c / 128) (best-first (pick (is_better all (c / 128) h) (c / 128) h) cs) (winner-good (c / 128) h).0)
      (best-others (pick (is_better all (c / 128) h) (c / 128) h) cs) i l

  -- and is one of them
  best-used : (h : ℕ) (cs : List ℕ) → (best_of all h cs ≡ h) ⊎ ((i : ℕ) × (i < length cs) × (at cs i / 128 ≡ best_of all h cs))
  unfolding best_of
  best-used h [] = inl refl
  best-used h (c ∷ cs) = ⊎_elim first later (best-used (pick (is_better all (c / 128) h) (c / 128) h) cs)
    where
      first : best_of all h (c ∷ cs) ≡ pick (is_better all (c / 128) h) (c / 128) h
          → (best_of all h (c ∷ cs) ≡ h) ⊎ ((i : ℕ) × (i < length (c ∷ cs)) × (at (c ∷ cs) i / 128 ≡ best_of all h (c ∷ cs)))
      first q =
          cases (is_better all (c / 128) h)
          (λ e. let w : pick (is_better all (c / 128) h) (c / 128) h ≡ c / 128 = rw e in inr (0, omega arith, sym (q ∙ w)))
          (λ e. let w : pick (is_better all (c / 128) h) (c / 128) h ≡ h = rw e in inl (q ∙ w))

      later : (i : ℕ) × (i < length cs) × (at cs i / 128 ≡ best_of all h (c ∷ cs))
          → (best_of all h (c ∷ cs) ≡ h) ⊎ ((i : ℕ) × (i < length (c ∷ cs)) × (at (c ∷ cs) i / 128 ≡ best_of all h (c ∷ cs)))
      later (i, l, q) = inr (suc i, omega arith, q)

best-half : (c : ℕ) (cs : List ℕ) → BestHalf (c ∷ cs) (best_of (c ∷ cs) (c / 128) cs)
best-half c cs = record { used = used (best-used (c ∷ cs) (c / 128) cs); fewest = λ i l. (good i l).0; lowest = λ i l. (good i l).1 }
  where
    h : ℕ
    h = best_of (c ∷ cs) (c / 128) cs

    good : (i : ℕ) → i < length (c ∷ cs) → AsGood (c ∷ cs) h (at (c ∷ cs) i / 128)
    good = from_first (λ i. AsGood (c ∷ cs) h (at (c ∷ cs) i / 128)) (length cs) (best-first (c ∷ cs) (c / 128) cs) (best-others (c ∷ cs) (c / 128) cs)

    used : (h ≡ c / 128) ⊎ ((i : ℕ) × (i < length cs) × (at cs i / 128 ≡ h)) → (i : ℕ) × (i < length (c ∷ cs)) × (at (c ∷ cs) i / 128 ≡ h)
    used (inl e) = (0, omega arith, sym e)
    used (inr (i, l, e)) = (suc i, omega arith, e)

-- the styles are told apart: half-row or row style, and mixed style
unfoldable is_one_row : Style → Bool
is_one_row (HalfRow h) = true
is_one_row (Row r) = true
is_one_row (Mixed h) = false
is_one_row NoRow = false

unfoldable is_mixed : Style → Bool
is_mixed (HalfRow h) = false
is_mixed (Row r) = false
is_mixed (Mixed h) = true
is_mixed NoRow = false

module _ (c : ℕ) (cs : List ℕ) where
  abbrev best : ℕ
  best = best_of (c ∷ cs) (c / 128) cs

  -- without a row of all codes the shorter of mixed and no-row style is left
  shorter-left : is_one_row (style_for (c ∷ cs)) ≡ false → style_for (c ∷ cs) ≡ mixed_or_no_row (c ∷ cs) best
  unfolding style_for is_one_row
  shorter-left e =
      cases (every_in (λ x. eqb (x / 128) (c / 128)) cs)
      (λ a. absurd (true-not-false refl (rw a at e)))
      (λ a. cases (every_in (λ x. eqb (x / 256) (c / 256)) cs)
      (λ b. absurd (true-not-false refl (rw (a, b) at e)))
      (λ b. rw (a, b)))

  mixed-left : (h : ℕ) → mixed_or_no_row (c ∷ cs) best ≡ Mixed h → (h ≡ best) × (mixed_cost (c ∷ cs) best < no_row_cost (c ∷ cs))
  unfolding mixed_or_no_row is_mixed
  mixed-left h e =
      cases (ltb (mixed_cost (c ∷ cs) best) (no_row_cost (c ∷ cs)))
      (λ l. let m : Mixed best ≡ Mixed h = rw l at e in (cc, ltb-true _ _ l))
      (λ l. absurd (true-not-false refl (sym (ap is_mixed (rw l at e)))))

  no-row-left : mixed_or_no_row (c ∷ cs) best ≡ NoRow → no_row_cost (c ∷ cs) ≤ mixed_cost (c ∷ cs) best
  unfolding mixed_or_no_row is_mixed
  no-row-left e =
      cases (ltb (mixed_cost (c ∷ cs) best) (no_row_cost (c ∷ cs)))
      (λ l. absurd (true-not-false refl (ap is_mixed (rw l at e))))
      (λ l. ltb-false _ _ l)

-- a text in mixed style has the best half-row of its codes, and is shorter so than in no-row style
pub mixed-chosen : (codes : List ℕ) (h : ℕ) → style_for codes ≡ Mixed h → BestHalf codes h × (mixed_cost codes h < no_row_cost codes)
unfolding style_for is_one_row is_mixed
mixed-chosen [] h e = absurd (true-not-false refl (sym (ap is_mixed e)))
mixed-chosen (c ∷ cs) h e =
    let m = mixed-left c cs h (sym (shorter-left c cs (ap is_one_row e)) ∙ e) in
    rw m.0 (best-half c cs, m.1)

-- a text in no-row style would be no shorter in mixed style, with any half-row that is used
pub no-row-chosen : (codes : List ℕ) → style_for codes ≡ NoRow → (i : ℕ) → i < length codes → no_row_cost codes ≤ mixed_cost codes (at codes i / 128)
unfolding is_one_row
no-row-chosen [] e i h = absurd (omega arith)
no-row-chosen (c ∷ cs) e i h =
    let n = no-row-left c cs (sym (shorter-left c cs (ap is_one_row e)) ∙ e) in
    omega (arith, n, (best-half c cs).fewest i h)

-- codes that are all in one group, by the test of the choice
all_in : (size c : ℕ) (cs : List ℕ) (group : ℕ) → every_in (λ x. eqb (x / size) (c / size)) cs ≡ true → c / size ≡ group → AllIn size (c ∷ cs) group
all_in size c cs group e is = record {
  some = omega arith;
  each = from_first (λ i. at (c ∷ cs) i / size ≡ group) (length cs) is (λ i h. eqb-true _ _ (at_each (length cs) (λ k. eqb (at cs k / size) (c / size)) e i h) ∙ is);
}

module _ (size c : ℕ) (cs : List ℕ) (group : ℕ) (a : AllIn size (c ∷ cs) group) where
  first-in : c / size ≡ group
  first-in = a.each 0 (omega arith)

  others-in : every_in (λ x. eqb (x / size) (c / size)) cs ≡ true
  others-in = each_at (length cs) (λ k. eqb (at cs k / size) (c / size)) (λ k h. eq-eqb _ _ (a.each (suc k) (omega arith) ∙ sym first-in))

unfoldable is_half_row : Style → Bool
is_half_row (HalfRow h) = true
is_half_row (Row r) = false
is_half_row (Mixed h) = false
is_half_row NoRow = false

unfoldable is_row : Style → Bool
is_row (HalfRow h) = false
is_row (Row r) = true
is_row (Mixed h) = false
is_row NoRow = false

-- what is left after half-row style, and after row style
row-or-shorter : (b : Bool) (r : ℕ) (codes : List ℕ) (g : ℕ) → is_half_row (pick b (Row r) (mixed_or_no_row codes g)) ≡ false
unfolding is_half_row mixed_or_no_row
row-or-shorter true r codes g = refl
row-or-shorter false r codes g = cases (ltb (mixed_cost codes g) (no_row_cost codes)) (λ l. rw l) (λ l. rw l)

no-row-or-mixed : (codes : List ℕ) (g : ℕ) → is_row (mixed_or_no_row codes g) ≡ false
unfolding is_row mixed_or_no_row
no-row-or-mixed codes g = cases (ltb (mixed_cost codes g) (no_row_cost codes)) (λ l. rw l) (λ l. rw l)

module _ (c : ℕ) (cs : List ℕ) where
  half-row-all : (h : ℕ) → style_for (c ∷ cs) ≡ HalfRow h → AllIn 128 (c ∷ cs) h
  unfolding style_for is_half_row
  half-row-all h e =
      cases (every_in (λ x. eqb (x / 128) (c / 128)) cs)
      (λ a. let q : HalfRow (c / 128) ≡ HalfRow h = rw a at e in all_in 128 c cs h a cc)
      (λ a. absurd (true-not-false (ap is_half_row (rw a at e)) (row-or-shorter (every_in (λ x. eqb (x / 256) (c / 256)) cs) (c / 256) (c ∷ cs) (best c cs))))

  all-half-row : (h : ℕ) → AllIn 128 (c ∷ cs) h → style_for (c ∷ cs) ≡ HalfRow h
  unfolding style_for
  all-half-row h w = rw (others-in 128 c cs h w) (ap HalfRow (first-in 128 c cs h w))

  row-all : (r : ℕ) → style_for (c ∷ cs) ≡ Row r → AllIn 256 (c ∷ cs) r × ((h : ℕ) → AllIn 128 (c ∷ cs) h → ⊥)
  unfolding style_for is_row
  row-all r e = (
    cases (every_in (λ x. eqb (x / 128) (c / 128)) cs)
        (λ a. absurd (true-not-false refl (sym (ap is_row (rw a at e)))))
        (λ a. cases (every_in (λ x. eqb (x / 256) (c / 256)) cs)
        (λ b. let q : Row (c / 256) ≡ Row r = rw (a, b) at e in all_in 256 c cs r b cc)
        (λ b. absurd (true-not-false (ap is_row (rw (a, b) at e)) (no-row-or-mixed (c ∷ cs) (best c cs))))),
    λ h w. true-not-false refl (sym (ap is_row (sym (all-half-row h w) ∙ e))),
  )

  all_row : (r : ℕ) → AllIn 256 (c ∷ cs) r → ((h : ℕ) → AllIn 128 (c ∷ cs) h → ⊥) → style_for (c ∷ cs) ≡ Row r
  unfolding style_for
  all_row r w apart =
      cases (every_in (λ x. eqb (x / 128) (c / 128)) cs)
      (λ a. absurd (apart (c / 128) (all_in 128 c cs (c / 128) a refl)))
      (λ a. rw (a, others-in 256 c cs r w) (ap Row (first-in 256 c cs r w)))

-- half-row style exactly if all codes are in one half-row
pub half-row-chosen : (codes : List ℕ) (h : ℕ) → (style_for codes ≡ HalfRow h) ↔ AllIn 128 codes h
unfolding style_for is_half_row
half-row-chosen [] h = (λ e. absurd (true-not-false refl (sym (ap is_half_row e))), λ w. absurd (omega (arith, w.some)))
half-row-chosen (c ∷ cs) h = (half-row-all c cs h, all-half-row c cs h)

-- row style exactly if all are in one row and not in one half-row
pub row-chosen : (codes : List ℕ) (r : ℕ) → (style_for codes ≡ Row r) ↔ (AllIn 256 codes r × ((h : ℕ) → AllIn 128 codes h → ⊥))
unfolding style_for is_row
row-chosen [] r = (λ e. absurd (true-not-false refl (sym (ap is_row e))), λ w. absurd (omega (arith, w.0.some)))
row-chosen (c ∷ cs) r = (row-all c cs r, λ w. all_row c cs r w.0 w.1)
