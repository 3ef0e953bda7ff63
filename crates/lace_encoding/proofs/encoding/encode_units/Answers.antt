-- More than 34 units or 36 octets make a label over 63 bytes; else it is written.
use mathlib.Core.Path.{ap}
use native.Mathlib.Omega.{arith}
use Rattle.basis.specs.Outcome.{outcome_by, done}
use Rattle.lace_encoding.proofs.EncodeLaws.{units-many, octets-are, octets-many, units-done}
use Rattle.basis.proofs.Clauses.{two_clauses}
use Rattle.lace_encoding.proofs.encoding.encode_units.Goals as goal

pub returns-then-units-gt-MOST_UNITS : goal.returns-then-units-gt-MOST_UNITS
unfolding outcome_by
returns-then-units-gt-MOST_UNITS c =
    rw c.at.ensures (two_clauses (λ a b. record { result_value = a; label_after = b }) (units-many c.args.units.now _ c.requires.0 (omega (arith, c.if-units-gt-MOST_UNITS.true))))

pub returns-then-n-gt36 : goal.returns-then-n-gt36
unfolding outcome_by
returns-then-n-gt36 c =
    rw c.at-then-n-gt36.ensures (two_clauses (λ a b. record { result_value = a; label_after = b }) (octets-many _ _ _ c.put_octets-n.ensures.value (omega (arith, c.if-n-gt36.true))))

pub returns : goal.returns
unfolding outcome_by
returns c =
    two_clauses (λ a b. record { result_value = a; label_after = b }) (units-done _ _ _ c.put_octets-n.ensures.value (omega (arith, c.if-n-gt36.false)) _ (octets-are _ _ c.put_octets-n.ensures.value _ _ c.put_octets-n.ensures.octets_after) _ _ (ap done c.put_label.ensures.value) c.put_label.ensures.label_after)
