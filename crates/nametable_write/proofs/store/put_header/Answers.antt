-- `store::put_header` meets its contract: the kind, then the number of entries.
use Rattle.nametable_write.proofs.store.put_header.Goals as goal

pub returns : goal.returns
returns c = c.put_number.ensures
