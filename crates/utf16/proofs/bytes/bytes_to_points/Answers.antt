-- `bytes::bytes_to_points` meets its contract.
use Prim.Native.Nat.{◌/◌, ◌%◌}
use mathlib.Core.Path.{sym, ap, ◌∙◌}
use lib.ListN.{length}
use native.Mathlib.Omega.{arith}
use Rattle.basis.specs.Outcome.{done, outcome_by}
use Rattle.basis.proofs.Outcome.{stop-below, stop-equal, pass-equal, stop-found, pass-found, refused-leaves, done-leaves}
use Rattle.utf16.specs.Answer.{is_odd, refused_unpaired, bytes_to_points_outcome}
use Rattle.utf16.specs.Bytes.{points_of}
use Rattle.utf16.proofs.BytePairs.{length-units_of_bytes}
use Rattle.utf16.proofs.Refusals.{points-judged}
use Rattle.basis.proofs.Clauses.{two_clauses}
use Rattle.utf16.proofs.bytes.bytes_to_points.Goals as goal

pub returns-then-spare-eq1 : goal.returns-then-spare-eq1
unfolding outcome_by bytes_to_points_outcome is_odd
returns-then-spare-eq1 c =
    rw c.at.ensures (two_clauses (λ a b. record { result_value = a; points_after = b }) (refused-leaves _ _ _ 12 0 (stop-equal 12 0 _ (length c.args.bytes.now % 2) 1 (omega arith))))

pub returns-then-points-pairs : goal.returns-then-points-pairs
unfolding outcome_by bytes_to_points_outcome is_odd
returns-then-points-pairs c =
    let a = c.args in
    let n = length a.bytes.now in
    rw c.at-then-points-pairs.ensures (two_clauses (λ a b. record { result_value = a; points_after = b }) (refused-leaves _ _ _ 1 0 (pass-equal 12 0 _ (n % 2) 1 (λ e. omega arith) ∙ stop-below 1 0 _ (length a.points.now) (n / 2) (omega arith))))

pub returns-then-unpaired-pairs : goal.returns-then-unpaired-pairs
unfolding outcome_by refused_unpaired
returns-then-unpaired-pairs c =
    let a = c.args in
    rw c.at-then-unpaired-pairs.ensures (two_clauses (λ a b. record { result_value = a; points_after = b }) (refused-leaves _ _ _ 10 _
    (points-judged _ _ (λ e. omega arith) (omega arith)
    ∙ stop-found 10 _ _ _ _ c.first_unpaired_of-unpaired.ensures (omega (arith, length-units_of_bytes a.bytes.now)))))

pub put_points-requires : goal.put_points-requires
put_points-requires c = omega (arith, length-units_of_bytes c.args.bytes.now)

pub returns : goal.returns
unfolding outcome_by refused_unpaired points_of
returns c =
    let a = c.args in
    two_clauses (λ a b. record { result_value = a; points_after = b }) (done-leaves _ _ _ _ _
    (points-judged _ _ (λ e. omega arith) (omega arith)
    ∙ pass-found 10 _ _ _ _ c.first_unpaired_of-unpaired.ensures (omega (arith, length-units_of_bytes a.bytes.now)) ∙ ap done (sym c.put_points.ensures.value))
    (rw (← c.put_points.ensures.value) at c.put_points.ensures.points_after))
