-- Laws on the first tests: a check says what they say, and the shared causes settle them.
use Prim.Native.Nat.{ℕ, ◌≤◌, ◌<◌}
use mathlib.Core.Path.{◌≡◌, sym, ap, ◌∙◌}
use mathlib.Core.Bool.{not}
use mathlib.Core.List.{List, ◌∷◌}
use lib.ListN.{length}
use borrow.Author.Tests.{ltb-false, eqb-false}
use native.Mathlib.Omega.{arith}
use Rattle.basis.specs.Rows.{at}
use Rattle.std.proofs.Common.{Result, Ok, Err}
use Rattle.basis.specs.Outcome.{Outcome, done, refused, number_of, outcome_by, and_then}
use Rattle.basis.specs.Causes.{Cause, whole, Settles}
use Rattle.basis.specs.declared.Refusal.{Refusal}
use Rattle.basis.proofs.Tests.{ltb_iff, eqb-iff, first-le}
use Rattle.basis.proofs.Outcome.{stop-below, pass_below, stop-equal, pass-equal, passed}
use Rattle.basis.proofs.Causes.{settle-whole, settle-first}
use Rattle.utf16.specs.Points.{is_point, first_not_point}
use Rattle.labels.specs.Tests.{text_tests, label_tests}
use Rattle.labels.specs.Answer.{check_outcome}
use Rattle.labels.specs.Causes.{text_causes, label_causes}

-- tests that a check answers for: by its answer they refuse whatever follows, or what follows decides
module _ (tests : Outcome → Outcome) (check : Result (Unit {0}) Refusal) (means : (next : Outcome) → and_then (λ p. p) (check_outcome check) next ≡ tests next) (next : Outcome) where
  pub check-stops : {refusal : Refusal} → check ≡ Err refusal → tests next ≡ refused (number_of refusal.code) refusal.position
  unfolding and_then outcome_by
  check-stops e = sym (means next) ∙ ap (λ c. and_then (λ p. p) (check_outcome c) next) e

  pub check-passes : {u : Unit {0}} → check ≡ Ok u → tests next ≡ next
  unfolding and_then outcome_by
  check-passes e = sym (means next) ∙ ap (λ c. and_then (λ p. p) (check_outcome c) next) e

-- what a text has that passes them, and a label
pub record TextPassed (capacity : ℕ) (t : List ℕ) : Type 0 where
  pub room : 63 ≤ capacity
  pub some : length t ≡ 0 → ⊥
  pub points : first_not_point t ≡ length t

pub record LabelPassed (capacity bytes : ℕ) : Type 0 where
  pub room : 63 ≤ capacity
  pub some : bytes ≡ 0 → ⊥
  pub short : bytes ≤ 63

pub text-passed : (capacity : ℕ) (t : List ℕ) (n : ℕ) (next : Outcome) → text_tests capacity t next ≡ done n → TextPassed capacity t
unfolding text_tests first_not_point
text-passed capacity t n next e =
    let room = passed _ _ _ _ _ e in
    let some = passed _ _ _ _ _ room.1 in
    let points = passed _ _ _ _ _ some.1 in
    record {
      room = ltb-false capacity 63 room.0;
      some = eqb-false (length t) 0 some.0;
      points = let g = first-le (length t) (λ k. not (is_point (at t k))) in let h = ltb-false (first_not_point t) (length t) points.0 in omega arith;
    }

pub label-passed : (capacity bytes n : ℕ) (next : Outcome) → label_tests capacity bytes next ≡ done n → LabelPassed capacity bytes
unfolding label_tests
label-passed capacity bytes n next e =
    let room = passed _ _ _ _ _ e in
    let some = passed _ _ _ _ _ room.1 in
    let short = passed _ _ _ _ _ some.1 in
    record { room = ltb-false capacity 63 room.0; some = eqb-false bytes 0 some.0; short = ltb-false 63 bytes short.0 }

-- and what has that passes them
pub label-passes : (capacity bytes : ℕ) (next : Outcome) → LabelPassed capacity bytes → label_tests capacity bytes next ≡ next
unfolding label_tests
label-passes capacity bytes next p = pass_below _ _ _ _ _ p.room ∙ pass-equal _ _ _ _ _ p.some ∙ pass_below _ _ _ _ _ p.short

-- a long label is refused, at any capacity of 63 or more
pub label-long : (capacity bytes : ℕ) (next : Outcome) → 63 ≤ capacity → 63 < bytes → label_tests capacity bytes next ≡ refused 3 0
unfolding label_tests
label-long capacity bytes next room long =
    let some : bytes ≡ 0 → ⊥ = λ e. omega arith in
    pass_below _ _ _ _ _ room ∙ pass-equal _ _ _ _ _ some ∙ stop-below _ _ _ _ _ long

-- so it is with what was checked
module _ (check : Result (Unit {0}) Refusal) {u : Unit {0}} (is : check ≡ Ok u) where
  pub text-checked : (capacity : ℕ) (t : List ℕ) → ((next : Outcome) → and_then (λ p. p) (check_outcome check) next ≡ text_tests capacity t next) → TextPassed capacity t
  text-checked capacity t means = text-passed capacity t 0 (done 0) (check-passes (text_tests capacity t) check means (done 0) is)

  pub label-checked : (capacity bytes : ℕ) → ((next : Outcome) → and_then (λ p. p) (check_outcome check) next ≡ label_tests capacity bytes next) → LabelPassed capacity bytes
  label-checked capacity bytes means = label-passed capacity bytes 0 (done 0) (check-passes (label_tests capacity bytes) check means (done 0) is)

-- 1, and the shared causes, before those that settle what follows
module _ (capacity : ℕ) (xs : List ℕ) {later : List Cause} {count : ℕ} {next : Outcome} where
  pub settle-text : Settles later count next → Settles (whole 1 (capacity < 63) ∷ text_causes xs later) count (text_tests capacity xs next)
  unfolding text_tests first_not_point
  settle-text rest =
      settle-whole _ 1 (ltb_iff capacity 63)
      (λ _. settle-whole _ 2 (eqb-iff (length xs) 0)
      (λ _. settle-first (length xs) (λ k. not (is_point (at xs k))) 4 (λ _. rest)))

  pub settle-label : ((length xs ≡ 0 → ⊥) → length xs ≤ 63 → Settles later count next)
      → Settles (whole 1 (capacity < 63) ∷ label_causes xs later) count (label_tests capacity (length xs) next)
  unfolding label_tests
  settle-label rest =
      settle-whole _ 1 (ltb_iff capacity 63)
      (λ _. settle-whole _ 2 (eqb-iff (length xs) 0)
      (λ some. settle-whole _ 3 (ltb_iff 63 (length xs))
      (λ short. rest (eqb-false _ _ some) (ltb-false _ _ short))))

-- what the tests of the sizes need
pub ruleset sizes_rules = (stop-below, pass_below, stop-equal, pass-equal)

pub ruleset label_rules = (check-passes, stop-below, pass_below)
