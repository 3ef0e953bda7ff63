-- `EntryList::put_entries` meets its contract: the entries from i on are left to store.
use Prim.Native.Nat.{◌+◌, ◌≤◌}
use mathlib.Core.Path.{refl}
use native.Mathlib.Omega.{arith}
use lib.ListN.{length}
use Rattle.basis.proofs.Stores.{storing-all}
use Rattle.nametable_format.specs.Format.{entry_length}
use Rattle.nametable_format.proofs.Parts.{entry-part-long}
use Rattle.nametable_write.proofs.ListLaws.{points-next}
use Rattle.nametable_write.proofs.StoreLaws.{spelled-next, put-turn, put-end}
use Rattle.nametable_write.proofs.entry_list.EntryList.put_entries.Goals as goal

pub loop-i-init : goal.loop-i-init
loop-i-init c = (refl, omega (arith, c.args.self.now.rows.summed), c.requires.all_spelled, storing-all _ _)

pub overflow_add-end : goal.overflow_add-end
overflow_add-end c =
    omega (arith, points-next c.args.self.now c.loop-i.i c.loop-i.start c.loop-i-test.true c.loop-i.invariant.1)

pub overflow_add-next : goal.overflow_add-next
overflow_add-next c = omega (arith, c.args.self.now.rows.few)

pub slice_bounds-put_entry-end : goal.slice_bounds-put_entry-end
slice_bounds-put_entry-end c =
    omega (arith, points-next c.args.self.now c.loop-i.i c.loop-i.start c.loop-i-test.true c.loop-i.invariant.1)

pub slice_bounds-put_entry-end-in-loop-i : goal.slice_bounds-put_entry-end-in-loop-i
slice_bounds-put_entry-end-in-loop-i c = omega (arith, c.loop-i.invariant.0, c.loop-i.invariant.3.long, c.requires.readers_in_bounds)

pub put_entry-requires : goal.put_entry-requires
put_entry-requires c =
    record {
      bytes_len = entry-part-long c.loop-i.table c.loop-i.at (omega (arith, c.loop-i-test.true, c.loop-i.invariant.0, c.loop-i.invariant.3.long, c.requires.readers_in_bounds));
      spelled = (spelled-next c.args.self.now c.args.table.now c.loop-i.table c.loop-i.at c.loop-i.i c.loop-i.start c.loop-i-test.true c.loop-i.invariant.2).0;
    }

pub loop-i-preserved : goal.loop-i-preserved
loop-i-preserved c =
    let spelled = spelled-next c.args.self.now c.args.table.now c.loop-i.table c.loop-i.at c.loop-i.i c.loop-i.start c.loop-i-test.true c.loop-i.invariant.2 in
    let fits : c.loop-i.at + entry_length ≤ length c.loop-i.table = omega (arith, c.loop-i-test.true, c.loop-i.invariant.0, c.loop-i.invariant.3.long, c.requires.readers_in_bounds) in (
      omega (arith, c.loop-i.invariant.0),
      points-next c.args.self.now _ _ c.loop-i-test.true c.loop-i.invariant.1,
      spelled.1,
      put-turn c.args.self.now c.args.table.now _ _ _ _ c.loop-i-test.true c.loop-i.invariant.3 spelled.0 fits _ c.put_entry.ensures,
    )

pub shape_of-table : goal.shape_of-table
shape_of-table c = c.loop-i.invariant.3.long

pub returns : goal.returns
returns c =
    put-end c.args.self.now c.args.table.now _ c.loop-i.at c.loop-i.i c.loop-i.start (omega (arith, c.loop-i.invariant.0)) c.loop-i-test.false c.loop-i.invariant.3
