-- Only a low octet completes a unit.
use Rattle.basis.proofs.Stores.{stored-none, stored_one}
use Rattle.lace_decoding.specs.Decoding.{unit_at}
use Rattle.lace_decoding.proofs.decoding.put_unit.Goals as goal

pub returns-in-Count : goal.returns-in-Count
unfolding unit_at
returns-in-Count c = rw c.in-Count.is (stored-none _ _)

pub returns-in-High : goal.returns-in-High
unfolding unit_at
returns-in-High c = rw c.in-High.is (stored-none _ _)

pub returns-in-Low : goal.returns-in-Low
unfolding unit_at
returns-in-Low c = rw (c.in-Low.is, c.from_be_bytes.ensures) (stored_one _ _ _)
