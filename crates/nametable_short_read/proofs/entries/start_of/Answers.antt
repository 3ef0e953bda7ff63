-- `entries::start_of` meets its contract: the entry at index i begins at start.
use mathlib.Core.Path.{◌≡◌, refl}
use native.Mathlib.Omega.{arith}
use Rattle.nametable_short_format.specs.Format.{from_entry}
use Rattle.nametable_short_format.proofs.EntryLaws.{ends_at}
use Rattle.nametable_short_read.proofs.TableLaws.{begins-next}
use Rattle.nametable_short_read.proofs.entries.start_of.Goals as goal

pub loop-i-init : goal.loop-i-init
unfolding from_entry
loop-i-init c = record { from = refl; inside = c.requires }

pub loop-i-preserved : goal.loop-i-preserved
unfolding from_entry
loop-i-preserved c =
    let b = c.loop-i.invariant in begins-next _ _ _ _ b (ends_at c.args.table.now c.loop-i.start _ b.inside c.end_of-start.ensures)

pub returns : goal.returns
unfolding from_entry
returns c = let n : c.loop-i._i ≡ c.args.index = omega arith in rw n at c.loop-i.invariant
