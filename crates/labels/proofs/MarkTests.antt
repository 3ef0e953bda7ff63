-- Laws on marks: the causes of 15 settle their tests, what passes them, and what marks have that do.
use Prim.Native.Nat.{ℕ, suc, ◌≤◌, ◌<◌}
use mathlib.Core.Path.{◌≡◌, refl, sym, ap, ◌∙◌}
use mathlib.Core.Bool.{Bool, true, false, not}
use mathlib.Core.Logic.{◌↔◌, ◌⊎◌, inl, inr, ⊎_elim}
use mathlib.Core.List.{List, ◌∷◌}
use lib.Dec.{eqb}
use lib.ListN.{length}
use lib.Seq.{ext_get_or}
use borrow.Author.Tests.{eqb-true, eqb-false, eq-eqb, ne_eqb, not-true, not-false}
use native.Mathlib.Nat.{le_of_eq}
use native.Mathlib.Omega.{arith}
use Rattle.basis.specs.Tests.{both}
use Rattle.basis.specs.Rows.{at}
use Rattle.basis.specs.Outcome.{Outcome}
use Rattle.basis.specs.Causes.{Cause, whole, NoCause, Settles}
use Rattle.basis.proofs.Tests.{cases, true-not-false, ltb_iff, eqb-iff, fails-iff, both_left, both_right, at_each, each_at, from_first, none-iff}
use Rattle.basis.proofs.Lists.{length-tabulate, at-tabulate}
use Rattle.basis.proofs.Outcome.{pass-if, pass_below}
use Rattle.basis.proofs.Causes.{settle-whole, settle-first, absent-first}
use Rattle.labels.specs.Tests.{marks_room_test}
use Rattle.labels.specs.Marks.{may_mark, first_bad_mark, marks_tests, no_marks}
use Rattle.labels.specs.Causes.{text_causes, marks_causes}

-- 1 for the marks, before those that settle what follows
pub settle-room : (capacity : ℕ) {later : List Cause} {count : ℕ} {next : Outcome} → Settles later count next
    → Settles (whole 1 (capacity < 63) ∷ later) count (marks_room_test capacity next)
unfolding marks_room_test
settle-room capacity rest = settle-whole _ 1 (ltb_iff capacity 63) (λ _. rest)

-- given room for the marks, what follows decides
pub room-pass : (capacity : ℕ) (next : Outcome) → 63 ≤ capacity → marks_room_test capacity next ≡ next
unfolding marks_room_test
room-pass capacity next room = pass_below _ _ _ _ _ room

-- a mark that may be on a point is 0, or 1 where the scheme keeps marks and the point is no hyphen
pub mark-is : (keeps : Bool) (point mark : ℕ) → may_mark keeps point mark ≡ true → (mark ≡ 0) ⊎ ((keeps ≡ true) × (mark ≡ 1) × (point ≡ 45 → ⊥))
unfolding may_mark
mark-is keeps point mark e =
    cases (eqb mark 0)
    (λ z. inl (eqb-true mark 0 z))
    (λ z.
    let k = rw z at e in
    let o = both_right _ _ k in
    inr (both_left _ _ k, eqb-true mark 1 (both_left _ _ o), eqb-false point 45 (not-true _ (both_right _ _ o))))

-- which marks may not be on a point, in the request's words
pub bad-mark : (keeps : Bool) (point mark : ℕ)
    → (may_mark keeps point mark ≡ false) ↔ (((mark ≡ 0 → ⊥) × (mark ≡ 1 → ⊥)) ⊎ (((mark ≡ 1) × (point ≡ 45)) ⊎ ((keeps ≡ false) × (mark ≡ 0 → ⊥))))
unfolding may_mark both
bad-mark keeps point mark =
    cases (eqb mark 0)
    (λ z. let e = eqb-true mark 0 z in (
      λ f. absurd (true-not-false (rw z) f),
      λ s. absurd (⊎_elim (λ a. a.0 e) (λ b. ⊎_elim (λ a. omega (arith, e, a.0)) (λ a. a.1 e) b) s),
    ))
    (λ z. let n = eqb-false mark 0 z in (
      λ f. cases keeps
          (λ k. cases (eqb mark 1)
          (λ o. inr (inl (eqb-true mark 1 o, eqb-true point 45 (not-false _ (rw (z, k, o) at f)))))
          (λ o. inl (n, eqb-false mark 1 o)))
          (λ k. inr (inr (k, n))),
      λ s. ⊎_elim
          (λ a. rw (z, ne_eqb mark 1 a.1) (cases keeps (λ k. rw k) (λ k. rw k)))
          (λ b. ⊎_elim (λ a. rw (z, eq-eqb mark 1 a.0, eq-eqb point 45 a.1) (cases keeps (λ k. rw k) (λ k. rw k))) (λ a. rw (z, a.0)) b) s,
    ))

-- there is one mark for each point, which may be on it
pub record LawfulMarks (keeps : Bool) (t marks : List ℕ) : Type 0 where
  pub count : length marks ≡ length t
  pub may : (i : ℕ) → i < length t → may_mark keeps (at t i) (at marks i) ≡ true

module _ (keeps : Bool) (t marks : List ℕ) where
  -- the two causes of 15, before those that settle what follows
  pub settle-marks : {later : List Cause} {count : ℕ} {next : Outcome} → Settles later count next
      → Settles (marks_causes keeps t marks later) count (marks_tests keeps t marks next)
  unfolding marks_tests first_bad_mark
  settle-marks rest =
      settle-whole _ 15 (fails-iff (eqb (length marks) (length t)) (eqb-iff _ _))
      (λ _. settle-first (length t) (λ i. not (may_mark keeps (at t i) (at marks i))) 15 (λ _. rest))

  -- neither holds exactly if the marks are lawful
  lawful-iff : (later : List Cause) → NoCause (marks_causes keeps t marks later) ↔ (LawfulMarks keeps t marks × NoCause later)
  lawful-iff later = (
    λ n. (
      record {
        count = cases (eqb (length marks) (length t)) (eqb-true _ _) (λ e. absurd (n.0 0 (refl, eqb-false _ _ e)));
        may = at_each _ _ ((none-iff _ (λ i. may_mark keeps (at t i) (at marks i))).0 (absent-first _ _ n.1.0));
      },
      n.1.1,
    ),
    λ (lawful, none). (λ p h. h.1 lawful.count, (λ i f. true-not-false f.here (ap not (lawful.may i f.inside)), none)),
  )

  -- a text may be written with marks exactly if it may be written, and they are lawful
  pub writable-marked : (own : List Cause) → NoCause (text_causes t (marks_causes keeps t marks own)) ↔ (NoCause (text_causes t own) × LawfulMarks keeps t marks)
  writable-marked own = (
    λ n. let (lawful, none) = (lawful-iff own).0 n.1.1 in ((n.0, (n.1.0, none)), lawful),
    λ (n, lawful). (n.0, (n.1.0, (lawful-iff own).1 (lawful, n.1.1))),
  )

  -- lawful marks pass the tests
  pub lawful-pass : (next : Outcome) → LawfulMarks keeps t marks → marks_tests keeps t marks next ≡ next
  unfolding marks_tests first_bad_mark
  lawful-pass next lawful =
      pass-if _ _ _ _ (ap not (eq-eqb _ _ lawful.count))
      ∙ pass_below _ _ _ _ _ (le_of_eq (sym ((none-iff _ (λ i. may_mark keeps (at t i) (at marks i))).1 (each_at _ _ lawful.may))))

-- a point and its mark more, and less
pub lawful-more : (keeps : Bool) (p mark : ℕ) (t marks : List ℕ) → may_mark keeps p mark ≡ true → LawfulMarks keeps t marks → LawfulMarks keeps (p ∷ t) (mark ∷ marks)
lawful-more keeps p mark t marks e lawful = record {
  count = ap suc lawful.count;
  may = from_first (λ i. may_mark keeps (at (p ∷ t) i) (at (mark ∷ marks) i) ≡ true) (length t) e lawful.may;
}

pub lawful-tail : (keeps : Bool) (p mark : ℕ) (t marks : List ℕ) → LawfulMarks keeps (p ∷ t) (mark ∷ marks) → LawfulMarks keeps t marks
lawful-tail keeps p mark t marks lawful = record { count = omega (arith, lawful.count); may = λ i h. lawful.may (suc i) (omega arith) }

-- marks of 0 are lawful, whether or not a mark may be 1
pub none-lawful : (keeps : Bool) (t : List ℕ) → LawfulMarks keeps t (no_marks (length t))
unfolding no_marks may_mark
none-lawful keeps t = record { count = length-tabulate _ _; may = λ i h. rw (at-tabulate (length t) (λ _. 0) i h) }

-- and where no mark may be 1, no others are
pub lawful-none : (t marks : List ℕ) → LawfulMarks false t marks → marks ≡ no_marks (length t)
unfolding no_marks
lawful-none t marks lawful =
    ext_get_or 0 marks (no_marks (length t)) (lawful.count ∙ sym (length-tabulate (length t) (λ _. 0)))
    (λ i h.
    let g : i < length t = omega (arith, lawful.count) in
    ⊎_elim (λ z. z) (λ k. absurd (true-not-false k.0 refl)) (mark-is false (at t i) (at marks i) (lawful.may i g)) ∙ sym (at-tabulate (length t) (λ _. 0) i g))
