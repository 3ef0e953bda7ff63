-- No units of no octets; after FF pairs, else runs.
use Rattle.lace_decoding.proofs.DecodeLaws.{stored-none, stored-ff, stored-runs}
use Rattle.basis.proofs.Clauses.{two_clauses}
use Rattle.lace_decoding.proofs.decoding.put_units.Goals as goal

pub returns-then-octets-eq0 : goal.returns-then-octets-eq0
returns-then-octets-eq0 c = two_clauses (λ a b. record { value = a; units_after = b }) (stored-none _ c.if-octets-eq0.true _)

pub returns-then-octets : goal.returns-then-octets
returns-then-octets c =
    two_clauses (λ a b. record { value = a; units_after = b }) (stored-ff _ _ _ _ c.if-octets.true (c.put_unit_pairs.ensures.value, c.put_unit_pairs.ensures.units_after))

pub returns : goal.returns
returns c =
    two_clauses (λ a b. record { value = a; units_after = b }) (stored-runs _ _ _ _ c.if-octets.false (c.put_run_units.ensures.value, c.put_run_units.ensures.units_after))
