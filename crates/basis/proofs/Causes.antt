-- Laws on causes: a row of causes settles the outcome that its tests give.
use Prim.Native.Nat.{ℕ, ◌<◌}
use mathlib.Core.Path.{◌≡◌, refl, sym, ap, ap₂, ◌∙◌, subst}
use mathlib.Core.Bool.{Bool, true, false}
use mathlib.Core.Logic.{◌↔◌, ◌⊎◌, inl, inr, ⊎_elim}
use mathlib.Core.List.{List, [], ◌∷◌}
use lib.Dec.{ltb}
use borrow.Author.Tests.{ltb-true, ltb-false, lt-ltb}
use native.Mathlib.Omega.{arith}
use Rattle.basis.specs.Tests.{first_below, IsFirst}
use Rattle.basis.specs.Outcome.{Outcome, done, refused, refused_if, and_then}
use Rattle.basis.specs.Causes.{Cause, whole, placed, moved, moved_all, Absent, NoCause, FirstCause, Settles}
use Rattle.basis.proofs.Outcome.{done-not-refused, IsDone}
use Rattle.basis.proofs.Tests.{cases, by-lt, true-not-false, first-le, first-is, first-at}

-- with no cause left, the outcome is done
pub settle-done : (count : ℕ) → Settles [] count (done count)
settle-done count = record {
  refuses = λ number position. (λ e. done-not-refused refl e, λ f. absurd f);
  succeeds = λ n. (λ e. (tt, cc), λ p. let e = p.1 in cc);
}

-- what is settled by its causes is done exactly when none holds
pub settled-done : {causes : List Cause} {outcome : Outcome} (count : ℕ) → Settles causes count outcome → IsDone outcome ↔ NoCause causes
settled-done count s = (λ (n, e). ((s.succeeds n).0 e).0, λ none. (count, (s.succeeds count).1 (none, refl)))

-- the same causes settle one outcome alone
pub settled-once : {causes : List Cause} {count : ℕ} (o p : Outcome) → Settles causes count o → Settles causes count p → o ≡ p
settled-once (done n) p s r = sym ((r.succeeds n).1 ((s.succeeds n).0 refl))
settled-once (refused number position) p s r = sym ((r.refuses number position).1 ((s.refuses number position).0 refl))

-- a cause that holds, and holds at one position alone
settle-yes : (c : Cause) (position : ℕ) {causes : List Cause} {count : ℕ}
    → c.HoldsAt position → ((p : ℕ) → c.HoldsAt p → p ≡ position) → Settles (c ∷ causes) count (refused c.number position)
settle-yes c position {causes} {count} there-holds only = record { refuses = λ number p. (there number p, back number p); succeeds = λ n. (λ e. absurd (done-not-refused e refl), λ q. absurd (q.0.0 position there-holds)) }
  where
    there : (number p : ℕ) → refused c.number position ≡ refused number p → FirstCause (c ∷ causes) number p
    there number p e =
        let k : c.number ≡ number = cc in
        let q : position ≡ p = cc in
        inl (k, subst c.HoldsAt q there-holds)

    back : (number p : ℕ) → FirstCause (c ∷ causes) number p → refused c.number position ≡ refused number p
    back number p (inl f) = ap₂ refused f.0 (sym (only p f.1))
    back number p (inr f) = absurd (f.0 position there-holds)

-- a cause that holds nowhere
settle-no : (c : Cause) {causes : List Cause} {count : ℕ} {outcome : Outcome} → Absent c → Settles causes count outcome → Settles (c ∷ causes) count outcome
settle-no c {causes} {count} {outcome} absent s = record {
  refuses = λ number p. (λ e. inr (absent, (s.refuses number p).0 e), back number p);
  succeeds = λ n. (λ e. let q = (s.succeeds n).0 e in ((absent, q.0), q.1), λ q. (s.succeeds n).1 (q.0.1, q.1));
}
  where
    back : (number p : ℕ) → FirstCause (c ∷ causes) number p → outcome ≡ refused number p
    back number p (inl f) = absurd (absent p f.1)
    back number p (inr f) = (s.refuses number p).1 f.1

-- a cause that holds nowhere may be left out
pub settle-without : (c : Cause) {causes : List Cause} {count : ℕ} {outcome : Outcome} → Absent c → Settles (c ∷ causes) count outcome → Settles causes count outcome
settle-without c {causes} {count} {outcome} absent s = record {
  refuses = λ number p. (λ e. there number p ((s.refuses number p).0 e), λ f. (s.refuses number p).1 (inr (absent, f)));
  succeeds = λ n. (λ e. let q = (s.succeeds n).0 e in (q.0.1, q.1), λ q. (s.succeeds n).1 ((absent, q.0), q.1));
}
  where
    there : (number p : ℕ) → FirstCause (c ∷ causes) number p → FirstCause causes number p
    there number p (inl f) = absurd (absent p f.1)
    there number p (inr f) = f.1

-- causes that were moved hold exactly where those of the row do
module _ (f : ℕ → ℕ) where
  absent-moved : (c : Cause) → Absent c → Absent (moved f c)
  absent-moved c absent position h = absent h.0 h.2

  moved-absent : (c : Cause) → Absent (moved f c) → Absent c
  moved-absent c absent p s = absent (f p) (p, refl, s)

  settle-none : (cs : List Cause) {later : List Cause} {count : ℕ} {outcome : Outcome} → NoCause cs → Settles later count outcome → Settles (moved_all f cs later) count outcome
  settle-none [] none s = s
  settle-none (c ∷ cs) none s = settle-no (moved f c) (absent-moved c none.0) (settle-none cs none.1 s)

  first-moved : (cs later : List Cause) (number p : ℕ) → FirstCause cs number p → FirstCause (moved_all f cs later) number (f p)
  first-moved [] later number p h = absurd h
  first-moved (c ∷ cs) later number p (inl h) = inl (h.0, (p, refl, h.1))
  first-moved (c ∷ cs) later number p (inr h) = inr (absent-moved c h.0, first-moved cs later number p h.1)

  moved-first : (cs later : List Cause) (number position : ℕ) → FirstCause (moved_all f cs later) number position
      → ((p : ℕ) × (position ≡ f p) × FirstCause cs number p) ⊎ (NoCause cs × FirstCause later number position)
  moved-first [] later number position h = inr (tt, h)
  moved-first (c ∷ cs) later number position (inl h) = inl (h.1.0, h.1.1, inl (h.0, h.1.2))
  moved-first (c ∷ cs) later number position (inr h) =
      ⊎_elim (λ g. inl (g.0, g.1, inr (moved-absent c h.0, g.2))) (λ g. inr ((moved-absent c h.0, g.0), g.1)) (moved-first cs later number position h.1)

some-cause : (cs : List Cause) (number p : ℕ) → FirstCause cs number p → NoCause cs → ⊥
some-cause [] number p h none = h
some-cause (c ∷ cs) number p (inl h) none = none.0 p h.1
some-cause (c ∷ cs) number p (inr h) none = some-cause cs number p h.1 none.1

-- the causes of an outcome, moved, and then those of what follows it settle both in turn
pub settle-and_then : (f : ℕ → ℕ) (cs later : List Cause) (count total : ℕ) (outcome next : Outcome) → Settles cs count outcome
    → ((n : ℕ) → outcome ≡ done n → Settles later total next) → Settles (moved_all f cs later) total (and_then f outcome next)
unfolding and_then
settle-and_then f cs later count total (done n) next s rest = settle-none f cs ((s.succeeds n).0 refl).0 (rest n refl)
settle-and_then f cs later count total (refused number p) next s rest = record {
  refuses = λ k q. (there k q, λ h. back k q (moved-first f cs later k q h));
  succeeds = λ n. (λ e. absurd (done-not-refused e refl), λ h. absurd (some-cause (moved_all f cs later) number (f p) first h.0));
}
  where
    first : FirstCause (moved_all f cs later) number (f p)
    first = first-moved f cs later number p ((s.refuses number p).0 refl)

    there : (k q : ℕ) → refused number (f p) ≡ refused k q → FirstCause (moved_all f cs later) k q
    there k q e =
        let m : number ≡ k = cc in
        let o : f p ≡ q = cc in
        subst (λ (x : ℕ). FirstCause (moved_all f cs later) k x) o (subst (λ (x : ℕ). FirstCause (moved_all f cs later) x (f p)) m first)

    back : (k q : ℕ) → ((r : ℕ) × (q ≡ f r) × FirstCause cs k r) ⊎ (NoCause cs × FirstCause later k q) → refused number (f p) ≡ refused k q
    back k q (inl h) =
        let e : refused number p ≡ refused k h.0 = (s.refuses k h.0).1 h.2 in
        let m : number ≡ k = cc in
        let o : p ≡ h.0 = cc in
        ap₂ refused m (ap f o ∙ sym h.1)
    back k q (inr h) = absurd (some-cause cs number p ((s.refuses number p).0 refl) h.0)

-- a test that holds exactly where the cause holds; if it fails, the later causes settle the rest
pub settle-if : (test : Bool) (c : Cause) (position : ℕ) {causes : List Cause} {count : ℕ} {next : Outcome}
    → (test ≡ true → c.HoldsAt position)
    → ((p : ℕ) → c.HoldsAt p → (test ≡ true) × (p ≡ position))
    → (test ≡ false → Settles causes count next)
    → Settles (c ∷ causes) count (refused_if test c.number position next)
unfolding refused_if
settle-if true c position there-holds only rest = settle-yes c position (there-holds refl) (λ p h. (only p h).1)
settle-if false c position there-holds only rest = settle-no c (λ p h. true-not-false (only p h).0 refl) (rest refl)

-- a cause with no place of its own
pub settle-whole : (test : Bool) (number : ℕ) {Holds : Type 0} {causes : List Cause} {count : ℕ} {next : Outcome}
    → (test ≡ true) ↔ Holds
    → (test ≡ false → Settles causes count next)
    → Settles (whole number Holds ∷ causes) count (refused_if test number 0 next)
settle-whole test number {Holds} holds rest = settle-if test (whole number Holds) 0 (λ e. (refl, holds.0 e)) (λ p h. (holds.1 h.1, h.0)) rest

-- a cause that holds exactly at the place of the first index at which a test holds
pub settle-place : (n : ℕ) (test : ℕ → Bool) (c : Cause) (place : ℕ → ℕ) {causes : List Cause} {count : ℕ} {next : Outcome}
    → ((i : ℕ) → IsFirst n test i → c.HoldsAt (place i))
    → ((p : ℕ) → c.HoldsAt p → (i : ℕ) × (p ≡ place i) × IsFirst n test i)
    → (first_below n test ≡ n → Settles causes count next)
    → Settles (c ∷ causes) count (refused_if (ltb (first_below n test) n) c.number (place (first_below n test)) next)
settle-place n test c place there-holds only rest =
    settle-if (ltb (first_below n test) n) c (place (first_below n test))
    (λ e. there-holds (first_below n test) (first-is n test (ltb-true _ _ e)))
    (λ p h. only-there p (only p h))
    (λ e. rest (let g = first-le n test in omega (arith, ltb-false (first_below n test) n e)))
  where
    only-there : (p : ℕ) → (i : ℕ) × (p ≡ place i) × IsFirst n test i → (ltb (first_below n test) n ≡ true) × (p ≡ place (first_below n test))
    only-there p (i, q, f) =
        let e = first-at n test i f.inside f.here f.before in
        let h : i < n = f.inside in
        (lt-ltb (first_below n test) n (omega arith), q ∙ ap place (sym e))

-- the index itself
pub settle-first : (n : ℕ) (test : ℕ → Bool) (number : ℕ) {causes : List Cause} {count : ℕ} {next : Outcome}
    → (first_below n test ≡ n → Settles causes count next)
    → Settles (placed number (IsFirst n test) ∷ causes) count (refused_if (ltb (first_below n test) n) number (first_below n test) next)
settle-first n test number rest = settle-place n test (placed number (IsFirst n test)) (λ i. i) (λ i h. h) (λ p h. (p, refl, h)) rest

-- where such a cause holds nowhere, its test fails
pub absent-whole : (test : Bool) {Holds : Type 0} → (test ≡ true) ↔ Holds → ((position : ℕ) → (position ≡ 0) × Holds → ⊥) → test ≡ false
absent-whole test holds absent = cases test (λ e. absurd (absent 0 (refl, holds.0 e))) (λ e. e)

pub absent-first : (n : ℕ) (test : ℕ → Bool) → ((position : ℕ) → IsFirst n test position → ⊥) → first_below n test ≡ n
absent-first n test absent =
    by-lt (first_below n test) n
    (λ h. absurd (absent (first_below n test) (first-is n test h)))
    (λ h. let g = first-le n test in omega arith)
