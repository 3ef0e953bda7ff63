-- Texts and entries compared.
use Prim.Native.Nat.{ℕ, suc, ◌<◌}
use mathlib.Core.Path.{◌≡◌, refl, sym, ap, ◌∙◌}
use mathlib.Core.Bool.{true, false}
use mathlib.Core.List.{List, [], ◌∷◌}
use lib.Dec.{eqb}
use lib.ListN.{length}
use lib.Pointwise.{pointwise}
use borrow.Author.Tests.{eqb-true, eqb-false, eq-eqb, ne_eqb}
use native.Mathlib.Omega.{arith}
use Rattle.std.proofs.Common.{nat_eq, Result, Ok, Err}
use Rattle.std.specs.Result.{IsOk}
use Rattle.basis.specs.Outcome.{done}
use Rattle.basis.specs.declared.Refusal.{Refusal}
use Rattle.basis.specs.Tests.{both, every}
use Rattle.basis.specs.Rows.{at}
use Rattle.basis.proofs.Tests.{cases, each_at, not-each, both_true, both_false}
use Rattle.scheme.specs.Naming.{number_of}
use Rattle.nametable_format.specs.Format.{entry_at, scheme_in}
use Rattle.nametable.specs.Answer.{text_in, entry_text, judged_entry_outcome, entry_outcome, entry_from}
use Rattle.nametable.specs.declared.ReadEntry.{ReadEntry}
use Rattle.nametable_facts.proofs.JudgedEntry.{never-error}
use Rattle.nametable_differences.specs.declared.Difference.TheVariants.{Same, OtherText, Respelled}
use Rattle.nametable_differences.specs.Differences.{same_text, same_scheme, compared}

-- one more on either side
eqb_suc : (m n : ℕ) → eqb (suc m) (suc n) ≡ eqb m n
eqb_suc m n =
    cases (eqb m n)
    (λ e. rw e (eq-eqb (suc m) (suc n) (ap suc (eqb-true m n e))))
    (λ e. rw e (ne_eqb (suc m) (suc n) (λ q. eqb-false m n e (omega arith))))

-- what `==` of two texts answers
pub same_points : (xs ys : List ℕ) → pointwise nat_eq xs ys ≡ same_text xs ys
unfolding same_text both every
same_points [] [] = refl
same_points [] (y ∷ ys) = rw (ne_eqb 0 (suc (length ys)) (λ e. omega arith))
same_points (x ∷ xs) [] = rw (ne_eqb (suc (length xs)) 0 (λ e. omega arith))
same_points (x ∷ xs) (y ∷ ys) =
    cases (eqb x y)
    (λ e. rw (e, eqb_suc (length xs) (length ys)) (same_points xs ys))
    (λ e. rw e (sym (both_false (eqb (suc (length xs)) (suc (length ys))))))

module _ (xs ys : List ℕ) where
  -- texts of other lengths
  pub longer-text : (length xs ≡ length ys → ⊥) → false ≡ same_text xs ys
  unfolding same_text both
  longer-text other = rw (ne_eqb _ _ other)

  -- texts with another point at an index
  pub other_text : (i : ℕ) → i < length xs → (at xs i ≡ at ys i → ⊥) → false ≡ same_text xs ys
  unfolding same_text
  other_text i h other =
      sym (ap (both (eqb (length xs) (length ys))) (not-each (length xs) (λ k. eqb (at xs k) (at ys k)) i h (ne_eqb _ _ other)) ∙ both_false _)

  pub same-text : length xs ≡ length ys → ((k : ℕ) → k < length xs → eqb (at xs k) (at ys k) ≡ true) → true ≡ same_text xs ys
  unfolding same_text
  same-text long each = sym (both_true (eq-eqb _ _ long) (each_at (length xs) _ each))

-- an entry that is found is answered
pub answered-ok : (t : List ℕ) (i capacity : ℕ) → judged_entry_outcome t i capacity ≡ done (length (entry_text t i))
    → (answer : Result ReadEntry Refusal) → entry_outcome answer ≡ entry_from (entry_at t i) (judged_entry_outcome t i capacity) → IsOk answer
answered-ok t i capacity found (Ok entry) a = refl
answered-ok t i capacity found (Err refusal) a = absurd (never-error t i capacity found (Err refusal) a refusal refl)

-- two entries, by what was found of their texts, which are given, and of their schemes
module _ (e f xs ys : List ℕ) (left : xs ≡ text_in e) (right : ys ≡ text_in f) where
  pub compared-other : same_text xs ys ≡ false → OtherText ≡ compared e f
  unfolding compared
  compared-other other = rw (← left, ← right, other)

  module _ (same : same_text xs ys ≡ true) where
    pub compared_same : number_of (scheme_in e) ≡ number_of (scheme_in f) → Same ≡ compared e f
    unfolding compared same_scheme
    compared_same scheme = rw (← left, ← right, same, eq-eqb _ _ scheme)

    pub compared-respelled : (number_of (scheme_in e) ≡ number_of (scheme_in f) → ⊥) → Respelled ≡ compared e f
    unfolding compared same_scheme
    compared-respelled scheme = rw (← left, ← right, same, ne_eqb _ _ scheme)
