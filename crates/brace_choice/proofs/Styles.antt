-- The codes of a text as they are stored, and the style that they have.
use Prim.Native.Nat.{ℕ, suc, ◌+◌, ◌/◌, ◌≤◌, ◌<◌}
use mathlib.Core.Path.{◌≡◌, refl, sym, ap, ◌∙◌}
use mathlib.Core.Bool.{Bool, true, false}
use mathlib.Core.List.{List, [], ◌∷◌, ◌++◌}
use lib.Dec.{eqb}
use lib.ListN.{length, take, drop, get_or, drop_of_length-le}
use lib.Seq.{take_all, drop-cons}
use borrow.Author.Tests.{eq-eqb}
use native.Mathlib.Numerals.{add-one}
use native.Mathlib.Omega.{arith}
use Rattle.basis.specs.Tests.{both, every, every_in}
use Rattle.basis.proofs.Tests.{cases}
use Rattle.basis.proofs.Stores.{Storing, Stored, storing-all, storing-piece, storing-none}
use Rattle.ascii.specs.Ldh.{is_ldh}
use Rattle.brace_format.specs.declared.style.Style.{Style}
use Rattle.brace_format.specs.declared.style.Style.TheVariants.{HalfRow, Row, NoRow}
use Rattle.brace_choice.specs.Choice.{codes_of, is_better, best_of, mixed_or_no_row, style_for, style_of}

-- a unit that is LDH is no code, any other is one
pub code-skipped : (u : ℕ) (b : Bool) → b ≡ is_ldh u → b ≡ true → codes_of (u ∷ []) ≡ []
unfolding codes_of
code-skipped u b e f = rw (sym e ∙ f)

pub code-kept : (u : ℕ) (b : Bool) → b ≡ is_ldh u → b ≡ false → codes_of (u ∷ []) ≡ u ∷ []
unfolding codes_of
code-kept u b e f = rw (sym e ∙ f)

codes-append : (u : ℕ) (t : List ℕ) → codes_of (u ∷ t) ≡ codes_of (u ∷ []) ++ codes_of t
unfolding codes_of
codes-append u t = cases (is_ldh u) (λ e. rw e) (λ e. rw e)

codes-few : (u : ℕ) → length (codes_of (u ∷ [])) ≤ 1
unfolding codes_of
codes-few u = cases (is_ldh u) (λ e. rw e (omega arith)) (λ e. rw e (omega arith))

-- the codes of the units from i on are still to be stored
pub record Gathering (t old codes : List ℕ) (at i : ℕ) : Type 0 where
  pub storing : Storing old (codes_of t) codes at (codes_of (drop i t))
  pub behind : at ≤ i
  pub inside : i ≤ length t

pub gathering-start : (t old : List ℕ) → Gathering t old old 0 0
gathering-start t old = record { storing = storing-all old (codes_of t); behind = omega arith; inside = omega arith }

module _ {t old codes : List ℕ} {at i : ℕ} (p : Gathering t old codes at i) where
  pub code_fits : i < length t → length t ≤ length old → at < length codes
  code_fits h g = omega (arith, p.behind, p.storing.long)

  split-code : i < length t → codes_of (drop i t) ≡ codes_of (get_or t i 0 ∷ []) ++ codes_of (drop (i + 1) t)
  split-code h = rw (drop-cons t i 0 h, add-one) (codes-append (get_or t i 0) (drop (suc i) t))

  pub gathering-turn : i < length t → {at' : ℕ} {codes' : List ℕ} → Stored codes at (codes_of (get_or t i 0 ∷ [])) codes' at' → Gathering t old codes' at' (i + 1)
  gathering-turn h q = record {
    storing = storing-piece p.storing (split-code h) q;
    behind = omega (arith, q.count, codes-few (get_or t i 0), p.behind);
    inside = omega arith;
  }

  pub gathering-end : length t ≤ i → length t ≤ length old → (at ≡ length (codes_of t)) × (codes ≡ codes_of t ++ drop (length (codes_of t)) old)
  unfolding codes_of
  gathering-end h g =
      let e : codes_of (drop i t) ≡ [] = rw drop_of_length-le in
      storing-none _ _ _ _ _ p.storing e (omega (arith, p.storing.count, ap length e, p.behind, p.inside))

-- a text has no more codes than units
pub codes-no-more : (t : List ℕ) → length (codes_of t) ≤ length t
unfolding codes_of
codes-no-more [] = omega arith
codes-no-more (u ∷ t) = let r = codes-no-more t in cases (is_ldh u) (λ e. rw e (omega arith)) (λ e. rw e (omega arith))

-- the first code is in its own half-row and row, and is no better than itself
all_after : (test : ℕ → Bool) (c : ℕ) (codes : List ℕ) → test c ≡ true → every_in test (c ∷ codes) ≡ every_in test codes
unfolding every both
all_after test c codes e = rw e

best-after : (codes rest : List ℕ) (c : ℕ) → best_of codes (c / 128) (c ∷ rest) ≡ best_of codes (c / 128) rest
unfolding best_of
best-after codes rest c = cases (is_better codes (c / 128) (c / 128)) (λ e. rw e) (λ e. rw e)

pub style-empty : (codes : List ℕ) → length codes ≡ 0 → NoRow ≡ style_for codes
unfolding style_for
style-empty [] e = refl
style-empty (c ∷ codes) e = absurd (omega arith)

pub style-half : (codes : List ℕ) → (length codes ≡ 0 → ⊥) → (b : Bool) → b ≡ every_in (λ x. eqb (x / 128) (get_or codes 0 0 / 128)) codes → b ≡ true → HalfRow (get_or codes 0 0 / 128) ≡ style_for codes
unfolding style_for
style-half [] n b e f = absurd (n refl)
style-half (c ∷ codes) n b e f =
    let l = sym (all_after (λ x. eqb (x / 128) (c / 128)) c codes (eq-eqb (c / 128) (c / 128) refl)) ∙ sym e ∙ f in
    rw l

pub style-row : (codes : List ℕ) → (length codes ≡ 0 → ⊥) → (b : Bool) → b ≡ every_in (λ x. eqb (x / 128) (get_or codes 0 0 / 128)) codes → b ≡ false
    → (r : Bool) → r ≡ every_in (λ x. eqb (x / 256) (get_or codes 0 0 / 256)) codes → r ≡ true → Row (get_or codes 0 0 / 256) ≡ style_for codes
unfolding style_for
style-row [] n b e f r d g = absurd (n refl)
style-row (c ∷ codes) n b e f r d g =
    let l = sym (all_after (λ x. eqb (x / 128) (c / 128)) c codes (eq-eqb (c / 128) (c / 128) refl)) ∙ sym e ∙ f in
    let m = sym (all_after (λ x. eqb (x / 256) (c / 256)) c codes (eq-eqb (c / 256) (c / 256) refl)) ∙ sym d ∙ g in
    rw (l, m)

pub style-other : (codes : List ℕ) → (length codes ≡ 0 → ⊥) → (b : Bool) → b ≡ every_in (λ x. eqb (x / 128) (get_or codes 0 0 / 128)) codes → b ≡ false
    → (r : Bool) → r ≡ every_in (λ x. eqb (x / 256) (get_or codes 0 0 / 256)) codes → r ≡ false
    → (best : ℕ) → best ≡ best_of codes (get_or codes 0 0 / 128) codes → mixed_or_no_row codes best ≡ style_for codes
unfolding style_for
style-other [] n b e f r d g best h = absurd (n refl)
style-other (c ∷ codes) n b e f r d g best h =
    let l = sym (all_after (λ x. eqb (x / 128) (c / 128)) c codes (eq-eqb (c / 128) (c / 128) refl)) ∙ sym e ∙ f in
    let m = sym (all_after (λ x. eqb (x / 256) (c / 256)) c codes (eq-eqb (c / 256) (c / 256) refl)) ∙ sym d ∙ g in
    rw (l, m) (ap (mixed_or_no_row (c ∷ codes)) (h ∙ best-after (c ∷ codes) codes c))

pub style-is : (t codes : List ℕ) (s : Style) → codes ≡ codes_of t → s ≡ style_for codes → s ≡ style_of t
unfolding style_of
style-is t codes s e f = f ∙ ap style_for e

-- a text of at most 63 units is its own first 63
pub style-whole : (t : List ℕ) (s : Style) → length t ≤ 63 → s ≡ style_of t → s ≡ style_of (take 63 t)
style-whole t s h e = e ∙ ap style_of (sym (take_all 63 t h))
