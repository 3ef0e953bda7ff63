-- `bytes::bytes_to_units` meets its contract.
use Prim.Native.Nat.{◌/◌, ◌%◌}
use mathlib.Core.Path.{◌∙◌}
use lib.ListN.{length}
use native.Mathlib.Omega.{arith}
use Rattle.basis.specs.Outcome.{outcome_by}
use Rattle.basis.proofs.Outcome.{stop-below, pass_below, stop-equal, refused-leaves, done-leaves}
use Rattle.utf16.specs.Answer.{is_odd, bytes_to_units_outcome}
use Rattle.utf16.proofs.Refusals.{units-done}
use Rattle.basis.proofs.Clauses.{two_clauses}
use Rattle.utf16.proofs.bytes.bytes_to_units.Goals as goal

pub returns-then-units-bytes : goal.returns-then-units-bytes
unfolding outcome_by bytes_to_units_outcome
returns-then-units-bytes c =
    let a = c.args in
    rw c.at.ensures (two_clauses (λ a b. record { result_value = a; units_after = b }) (refused-leaves _ _ _ 1 0 (stop-below 1 0 _ (length a.units.now) (length a.bytes.now / 2) c.if-units-bytes.true)))

pub returns-then-bytes-eq1 : goal.returns-then-bytes-eq1
unfolding outcome_by bytes_to_units_outcome is_odd
returns-then-bytes-eq1 c =
    let a = c.args in
    let n = length a.bytes.now in
    rw c.at-then-bytes-eq1.ensures (two_clauses (λ a b. record { result_value = a; units_after = b }) (refused-leaves _ _ _ 12 0 (pass_below 1 0 _ (length a.units.now) (n / 2) (omega arith) ∙ stop-equal 12 0 _ (n % 2) 1 (omega arith))))

pub returns : goal.returns
unfolding outcome_by
returns c =
    two_clauses (λ a b. record { result_value = a; units_after = b }) (done-leaves _ _ _ _ _ (units-done _ _ (omega arith) (λ e. omega arith) _ c.put_units.ensures.value) (rw (← c.put_units.ensures.value) at c.put_units.ensures.units_after))
