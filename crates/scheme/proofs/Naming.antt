-- The directory's numbers, kinds and letters are distinct, so each is one scheme's own; its numbers
-- are bytes; and which values name no scheme.
use Rattle.std.proofs.Common.{Option, Some}
use Prim.Native.Nat.{ℕ, ◌<◌}
use mathlib.Core.Path.{◌≡◌, refl, sym, ap, ◌∙◌}
use mathlib.Core.Bool.{Bool, true, not}
use mathlib.Core.Logic.{◌↔◌, ◌⊎◌, inl, inr}
use mathlib.Core.List.{List, [], ◌∷◌}
use lib.Dec.{eqb}
use borrow.Author.Tests.{eqb-true, eq-eqb}
use native.Mathlib.Omega.{arith}
use Rattle.basis.specs.Tests.{both}
use Rattle.basis.proofs.Tests.{cases, true-not-false, fails-iff, both_left, both_right}
use Rattle.scheme.specs.Naming.{row_of, schemes, number_of, kind_of, letter_of, first_with, default_number, own_number_names, number_names, kind_names, is_known, scheme_named}
use Rattle.scheme.specs.declared.Scheme.{Scheme}
use Rattle.scheme.specs.declared.Scheme.TheVariants.{Altdude, Lace, Brace}

-- no two of the schemes have the same value
unfoldable distinct : (Scheme → ℕ) → List Scheme → Bool
distinct value_of [] = true
distinct value_of (s ∷ rest) = both (not (is_known (first_with value_of (value_of s) rest))) (distinct value_of rest)

-- the computed test
directory-distinct : both (distinct number_of schemes) (both (distinct kind_of schemes) (distinct letter_of schemes)) ≡ true
unfolding both distinct is_known schemes first_with number_of kind_of letter_of row_of
directory-distinct = refl

-- the scheme is one of the list
abbrev OneOf : Scheme → List Scheme → Type 0
OneOf s [] = ⊥
OneOf s (t ∷ rest) = (s ≡ t) ⊎ OneOf s rest

-- what holds of each scheme by name holds of any
pub by-scheme : (P : Scheme → Type 0) → P Altdude → P Lace → P Brace → (s : Scheme) → P s
by-scheme P altdude lace brace Altdude = altdude
by-scheme P altdude lace brace Lace = lace
by-scheme P altdude lace brace Brace = brace

every-scheme : (s : Scheme) → OneOf s schemes
unfolding schemes
every-scheme = by-scheme (λ s. OneOf s schemes) (inl refl) (inr (inl refl)) (inr (inr (inl refl)))

-- where the values are distinct, the first scheme with a scheme's value is that scheme
own_value : (value_of : Scheme → ℕ) (list : List Scheme) → distinct value_of list ≡ true → (s : Scheme) → OneOf s list → first_with value_of (value_of s) list ≡ Some s
unfolding distinct first_with is_known
own_value value_of [] d s i = absurd i
own_value value_of (t ∷ rest) d s (inl e) = rw e (rw (eq-eqb (value_of t) (value_of t) refl))
own_value value_of (t ∷ rest) d s (inr i) =
    let later = own_value value_of rest (both_right _ _ d) s i in
    cases (eqb (value_of s) (value_of t))
    (λ e. absurd (true-not-false (both_left _ _ d) (ap (λ (n : Option Scheme). not (is_known n)) (ap (λ (v : ℕ). first_with value_of v rest) (sym (eqb-true _ _ e)) ∙ later))))
    (λ e. rw e later)

-- so a value is one scheme's alone
same-value : (value_of : Scheme → ℕ) → distinct value_of schemes ≡ true → (s t : Scheme) → value_of s ≡ value_of t → s ≡ t
same-value value_of d s t e =
    known_same (sym (own_value value_of schemes d s (every-scheme s)) ∙ ap (λ (v : ℕ). first_with value_of v schemes) e ∙ own_value value_of schemes d t (every-scheme t))
  where
    known_same : {s t : Scheme} → Some s ≡ Some t → s ≡ t
    known_same e = cc

pub same_number : (s t : Scheme) → number_of s ≡ number_of t → s ≡ t
same_number = same-value number_of (both_left _ _ directory-distinct)

-- the numbers of schemes are bytes
pub number_small : (s : Scheme) → number_of s < 256
unfolding number_of row_of
number_small = by-scheme (λ s. number_of s < 256) (omega arith) (omega arith) (omega arith)

-- a scheme's number and its kind name it
pub number-names : (s : Scheme) → own_number_names (number_of s) ≡ Some s
unfolding own_number_names
number-names s = own_value number_of schemes (both_left _ _ directory-distinct) s (every-scheme s)

pub kind-names : (s : Scheme) → kind_names (kind_of s) ≡ Some s
unfolding kind_names
kind-names s = own_value kind_of schemes (both_left _ _ (both_right _ _ directory-distinct)) s (every-scheme s)

-- and the scheme that a number or a kind names has it
value-back : (value_of : Scheme → ℕ) (value : ℕ) (list : List Scheme) → is_known (first_with value_of value list) ≡ true → value_of (scheme_named (first_with value_of value list)) ≡ value
unfolding first_with is_known scheme_named
value-back value_of value [] e = absurd (true-not-false e refl)
value-back value_of value (t ∷ rest) e = cases (eqb value (value_of t)) (λ q. rw q (sym (eqb-true _ _ q))) (λ q. rw q (value-back value_of value rest (rw q at e)))

pub number-back : (number : ℕ) → is_known (own_number_names number) ≡ true → number_of (scheme_named (own_number_names number)) ≡ number
unfolding own_number_names
number-back number e = value-back number_of number schemes e

pub kind-back : (kind : ℕ) → is_known (kind_names kind) ≡ true → kind_of (scheme_named (kind_names kind)) ≡ kind
unfolding kind_names
kind-back kind e = value-back kind_of kind schemes e

-- a value that names a scheme is a scheme's, and conversely
value-of-named : (value_of : Scheme → ℕ) (value : ℕ) (list : List Scheme) → is_known (first_with value_of value list) ≡ true → (s : Scheme) × (value ≡ value_of s)
unfolding first_with is_known
value-of-named value_of value [] e = absurd (true-not-false e refl)
value-of-named value_of value (t ∷ rest) e = cases (eqb value (value_of t)) (λ q. (t, eqb-true _ _ q)) (λ q. value-of-named value_of value rest (rw q at e))

value-names : (value_of : Scheme → ℕ) (value : ℕ) (list : List Scheme) (s : Scheme) → OneOf s list → value ≡ value_of s → is_known (first_with value_of value list) ≡ true
unfolding first_with is_known
value-names value_of value [] s i e = absurd i
value-names value_of value (t ∷ rest) s (inl is) e = rw (eq-eqb value (value_of t) (e ∙ ap value_of is))
value-names value_of value (t ∷ rest) s (inr i) e = cases (eqb value (value_of t)) (λ q. rw q) (λ q. rw q (value-names value_of value rest s i e))

-- so a value names none exactly when it differs from every scheme's
pub names-none-iff : (value_of : Scheme → ℕ) (value : ℕ) → (not (is_known (first_with value_of value schemes)) ≡ true) ↔ ((s : Scheme) → value ≡ value_of s → ⊥)
names-none-iff value_of value =
    let none = fails-iff (is_known (first_with value_of value schemes)) (value-of-named value_of value schemes, λ p. value-names value_of value schemes p.0 (every-scheme p.0) p.1) in
    (λ e s is. none.0 e (s, is), λ differs. none.1 (λ p. differs p.0 p.1))

-- 0 names a scheme
pub zero-known : is_known (number_names 0) ≡ true
unfolding is_known number_names own_number_names default_number first_with schemes number_of row_of
zero-known = refl

-- the one that 1 names
pub zero-is-one : number_names 0 ≡ number_names 1
unfolding number_names own_number_names default_number first_with schemes number_of row_of
zero-is-one = refl
