-- `encode_marked` meets its contract: what the first tests refuse is refused, and what passes them is written.
use Prim.Native.Nat.{ℕ}
use mathlib.Core.Path.{refl}
use mathlib.Core.Bool.{false}
use mathlib.Core.List.{List}
use native.Mathlib.Omega.{arith}
use lib.ListN.{length}
use Rattle.basis.specs.Outcome.{Outcome, done, outcome_by}
use Rattle.basis.proofs.Outcome.{handed_on, refused-leaves, handed-leaves}
use Rattle.ascii.specs.Ldh.{is_host_label}
use Rattle.labels.specs.Tests.{text_tests}
use Rattle.labels.specs.Marks.{marks_tests}
use Rattle.labels.proofs.FirstTests.{check-stops, check-passes, text-passed}
use Rattle.lace_encoding.specs.Answer.{label_outcome, encode_marked_outcome}
use Rattle.basis.proofs.Clauses.{two_clauses}
use Rattle.lace_encoding.proofs.encode_marked.Goals as goal

-- the first tests, with marks
abbrev tests : (capacity : ℕ) (text marks : List ℕ) → Outcome → Outcome
tests capacity t marks next = text_tests capacity t (marks_tests false t marks next)

pub returns-in_err-check_marked : goal.returns-in_err-check_marked
unfolding outcome_by encode_marked_outcome
returns-in_err-check_marked c =
    let a = c.args in
    rw (handed_on c.from_residual.ensures) (two_clauses (λ a b. record { result_value = a; label_after = b }) (refused-leaves (encode_marked_outcome is_host_label _ _ _) _ _ _ _
    (check-stops (tests (length a.label.now) a.text.now a.marks.now) _ c.check_marked.ensures _ c.in_err-check_marked.was)))

pub encode_checked-requires : goal.encode_checked-requires
encode_checked-requires c =
    let checked = text-passed _ _ 0 _ (check-passes _ _ c.check_marked.ensures (done 0) c.in_ok-check_marked.was) in
    (checked.points, omega (arith, checked.some), checked.room)

pub returns : goal.returns
unfolding encode_marked_outcome
returns c =
    two_clauses (λ a b. record { result_value = a; label_after = b }) (handed-leaves (encode_marked_outcome is_host_label _ _ _) (label_outcome is_host_label _) _ _ _ _ _ (check-passes _ _ c.check_marked.ensures _ c.in_ok-check_marked.was) refl (c.encode_checked.ensures.result_value, c.encode_checked.ensures.label_after))
