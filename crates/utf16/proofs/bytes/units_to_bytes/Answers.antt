-- `bytes::units_to_bytes` meets its contract.
use Prim.Native.Nat.{◌*◌}
use mathlib.Core.Path.{sym, ◌∙◌}
use lib.ListN.{length}
use lib.Seq.{length-take-le}
use native.Mathlib.Omega.{arith}
use Rattle.basis.specs.Outcome.{outcome_by}
use Rattle.basis.proofs.Outcome.{stop-below, pass_below, refused-leaves, done-leaves}
use Rattle.utf16.specs.Answer.{units_to_bytes_outcome}
use Rattle.utf16.proofs.Refusals.{bytes-done}
use Rattle.basis.proofs.Clauses.{two_clauses}
use Rattle.utf16.proofs.bytes.units_to_bytes.Goals as goal

pub returns-then-units-n : goal.returns-then-units-n
unfolding outcome_by units_to_bytes_outcome
returns-then-units-n c =
    let a = c.args in
    rw c.at.ensures (two_clauses (λ a b. record { result_value = a; bytes_after = b }) (refused-leaves _ _ _ 1 0 (stop-below 1 0 _ (length a.units.now) a.count.0 c.if-units-n.true)))

pub returns-then-bytes-n : goal.returns-then-bytes-n
unfolding outcome_by units_to_bytes_outcome
returns-then-bytes-n c =
    let a = c.args in
    rw c.at-then-bytes-n.ensures (two_clauses (λ a b. record { result_value = a; bytes_after = b }) (refused-leaves _ _ _ 1 0 (pass_below 1 0 _ (length a.units.now) a.count.0 c.if-units-n.false ∙ stop-below 1 0 _ (length a.bytes.now) (2 * a.count.0) c.if-bytes-n.true)))

pub slice_bounds-put_bytes-end : goal.slice_bounds-put_bytes-end
slice_bounds-put_bytes-end c = sym (length-take-le _ _ (omega arith))

pub put_bytes-written-requires : goal.put_bytes-written-requires
put_bytes-written-requires c = let h = c.if-units-n.false in rw length-take-le (omega arith)

pub returns : goal.returns
unfolding outcome_by
returns c =
    two_clauses (λ a b. record { result_value = a; bytes_after = b }) (done-leaves _ _ _ _ _ (bytes-done _ _ _ (omega arith) (omega arith) _ c.put_bytes-written.ensures.value) (rw (← c.put_bytes-written.ensures.value) at c.put_bytes-written.ensures.bytes_after))
