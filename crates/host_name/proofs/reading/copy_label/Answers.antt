-- `reading::copy_label` meets its contract: what is left are the bytes from the index on.
use Rattle.basis.proofs.Copying.{row-filled}
use Rattle.host_name.proofs.reading.copy_label.Goals as goal

pub returns : goal.returns
returns c = row-filled c.args.label.now _ _ _ c.loop-i.invariant c.loop-i-test.false c.requires
