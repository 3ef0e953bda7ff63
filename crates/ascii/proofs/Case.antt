-- Laws on case: two labels differ at most in case exactly when their small forms are the same.
use Prim.Native.Nat.{ℕ, suc, ◌+◌, ◌-◌, ◌≤◌, ◌<◌}
use mathlib.Core.Path.{◌≡◌, refl, sym, ap, ap₂, ◌∙◌}
use mathlib.Core.Bool.{true, false, ◌||◌}
use mathlib.Core.Logic.{inl, inr, ◌↔◌}
use mathlib.Core.List.{List, [], ◌∷◌, map}
use lib.ListN.{length, length-map, get_or-map}
use native.Mathlib.Omega.{arith}
use Rattle.basis.specs.Tests.{both, within}
use Rattle.ascii.specs.Case.{is_capital, small, capital, SameLetter, SameButCase}
use Rattle.basis.specs.Rows.{at}
use Rattle.basis.proofs.Tests.{cases, by-lt, within-true, within-below, within-above, within_low, within-high}
use Rattle.basis.proofs.Lists.{at_map}

-- a capital and its bounds
capital-low : (b : ℕ) → is_capital b ≡ true → 65 ≤ b
unfolding is_capital
capital-low b e = within_low _ _ b e

capital-high : (b : ℕ) → is_capital b ≡ true → b ≤ 90
unfolding is_capital
capital-high b e = within-high _ _ b e

small-capital : (b : ℕ) → is_capital b ≡ true → small b ≡ b + 32
unfolding small
small-capital b e = rw e

pub small-other : (b : ℕ) → is_capital b ≡ false → small b ≡ b
unfolding small
small-other b e = rw e

-- what is a capital, by the range of the byte
pub capital-inside : (b : ℕ) → 65 ≤ b → b ≤ 90 → is_capital b ≡ true
unfolding is_capital
capital-inside b h g = within-true 65 90 b h g

pub capital-below : (b : ℕ) → b < 65 → is_capital b ≡ false
unfolding is_capital
capital-below b h = within-below 65 90 b h

pub capital-above : (b : ℕ) → 90 < b → is_capital b ≡ false
unfolding is_capital
capital-above b h = within-above 65 90 b h

-- the small form by the range of the byte
pub small-inside : (b : ℕ) → 65 ≤ b → b ≤ 90 → small b ≡ b + 32
small-inside b h g = small-capital b (capital-inside b h g)

pub small-below : (b : ℕ) → b < 65 → small b ≡ b
small-below b h = small-other b (capital-below b h)

pub small-above : (b : ℕ) → 90 < b → small b ≡ b
small-above b h = small-other b (capital-above b h)

-- the capital form by the range of the byte
pub capital-of-small : (b : ℕ) → 97 ≤ b → b ≤ 122 → capital b ≡ b - 32
unfolding capital
capital-of-small b h g = rw (within-true 97 122 b h g)

pub capital-of-lower : (b : ℕ) → b < 97 → capital b ≡ b
unfolding capital
capital-of-lower b h = rw (within-below 97 122 b h)

pub capital-of-higher : (b : ℕ) → 122 < b → capital b ≡ b
unfolding capital
capital-of-higher b h = rw (within-above 97 122 b h)

-- a small letter or a digit is its own small form
pub small-or-digit : (c : ℕ) → (within 97 122 c || within 48 57 c) ≡ true → small c ≡ c
small-or-digit c e =
    cases (within 97 122 c)
    (λ l. small-above c (omega (arith, within_low 97 122 c l)))
    (λ l. small-below c (omega (arith, within-high 48 57 c (rw l at e))))

-- the small form is no capital
pub small-small : (b : ℕ) → small (small b) ≡ small b
small-small b =
    cases (is_capital b)
    (λ e. let l = capital-low b e in rw (small-capital b e) (small-above (b + 32) (omega arith)))
    (λ e. rw (small-other b e) (small-other b e))

pub all_small : (l : List ℕ) → map small (map small l) ≡ map small l
all_small [] = refl
all_small (b ∷ l) = ap₂ ◌∷◌ (small-small b) (all_small l)

-- the small form at every index, past the end too
pub at_small : (l : List ℕ) (i : ℕ) → at (map small l) i ≡ small (at l i)
unfolding small is_capital within both
at_small l i = get_or-map small l i 0

-- the capital form has the same small form, and is the capital that a small form was made of
pub small-of-capital : (b : ℕ) → small (capital b) ≡ small b
small-of-capital b =
    by-lt b 97
    (λ h. ap small (capital-of-lower b h))
    (λ h. by-lt 122 b
    (λ g. ap small (capital-of-higher b g))
    (λ g. ap small (capital-of-small b h g) ∙ small-inside (b - 32) (omega arith) (omega arith) ∙ omega (arith, small-above b (omega arith))))

pub capital-of-form : (b : ℕ) → is_capital b ≡ true → capital (small b) ≡ b
capital-of-form b e =
    let l = capital-low b e in
    let h = capital-high b e in
    ap capital (small-capital b e) ∙ capital-of-small (b + 32) (omega arith) (omega arith) ∙ omega arith

-- two bytes are the same letter exactly when their small forms are the same
pub same-letter : (a b : ℕ) → SameLetter a b → small a ≡ small b
same-letter a b (inl e) = ap small e
same-letter a b (inr (inl c)) =
    small-inside a c.0 c.1 ∙ sym c.2 ∙ sym (small-above b (omega arith))
same-letter a b (inr (inr c)) =
    small-above a (omega arith) ∙ c.2 ∙ sym (small-inside b c.0 c.1)

pub letter-same : (a b : ℕ) → small a ≡ small b → SameLetter a b
letter-same a b e =
    cases (is_capital a)
    (λ ca. cases (is_capital b)
    (λ cb. inl (omega (arith, small-capital a ca, small-capital b cb)))
    (λ cb. inr (inl (capital-low a ca, capital-high a ca, sym (small-other b cb) ∙ sym e ∙ small-capital a ca))))
    (λ ca. cases (is_capital b)
    (λ cb. inr (inr (capital-low b cb, capital-high b cb, sym (small-other a ca) ∙ e ∙ small-capital b cb)))
    (λ cb. inl (sym (small-other a ca) ∙ e ∙ small-other b cb)))

case-small : (l m : List ℕ) → length l ≡ length m → ((i : ℕ) → i < length l → SameLetter (at l i) (at m i)) → map small l ≡ map small m
case-small [] [] e h = refl
case-small [] (b ∷ m) e h = absurd (omega arith)
case-small (a ∷ l) [] e h = absurd (omega arith)
case-small (a ∷ l) (b ∷ m) e h = ap₂ ◌∷◌ (same-letter a b (h 0 (omega arith))) (case-small l m (omega arith) (λ i k. h (suc i) (omega arith)))

small-case : (l m : List ℕ) → map small l ≡ map small m → SameButCase l m
small-case l m e = record {
  equally_long = long;
  at_each = λ i h. letter-same (at l i) (at m i) (sym (at_map small l i h) ∙ ap (λ (x : List ℕ). at x i) e ∙ at_map small m i (omega (arith, long)));
}
  where
    long : length l ≡ length m
    long = sym (length-map l small) ∙ ap length e ∙ length-map m small

pub same-but-case : (l m : List ℕ) → SameButCase l m ↔ (map small l ≡ map small m)
same-but-case l m = (λ s. case-small l m s.equally_long s.at_each, small-case l m)

-- the small form of a label differs from it at most in case
pub small-spelled : (label l : List ℕ) → label ≡ map small l → SameButCase label l
small-spelled label l e = small-case label l (ap (map small) e ∙ all_small l)

-- what `small_form`, `is_capital` and `capital_form` need
pub ruleset case_by_range = (capital-inside, capital-below, capital-above, small-inside, small-below, small-above, capital-of-small, capital-of-lower, capital-of-higher)
