-- `lone_entry` meets its contract: the capacity, the length in both directions, then the entry by
-- itself.
use native.Mathlib.Omega.{arith}
use Rattle.nametable.proofs.TableLaws.{lone-read}
use Rattle.basis.proofs.Clauses.{two_clauses}
use Rattle.nametable.proofs.lone_entry.Goals as goal

pub returns : goal.returns
returns c =
    let a = c.args in
    two_clauses (λ a b. record { result_value = a; text_after = b }) (rw (lone-read a.least a.position _ a.entry.now c.if-text-lt-TEXT_CAPACITY.false (omega arith)) (c.read_entry.ensures.result_value, c.read_entry.ensures.text_after))
