-- `moves::put_long_entries` meets its contract: the long entries from i on are left to store.
use Prim.Native.Nat.{◌-◌}
use mathlib.Core.Path.{◌≡◌, refl, sym, ◌∙◌}
use native.Mathlib.Omega.{arith}
use lib.ListN.{drop}
use Rattle.basis.proofs.Stores.{storing-all, storing-end}
use Rattle.nametable_format.specs.Format.{header_length, table_length}
use Rattle.nametable_format.proofs.Parts.{entry-part-long}
use Rattle.nametable_short_format.proofs.EntryLaws.{ends_at, long-size, filled-own}
use Rattle.nametable_short.specs.Answer.{long_entries}
use Rattle.nametable_short.proofs.MoveLaws.{long-none, put-long-turn}
use Rattle.nametable_short.proofs.moves.put_long_entries.Goals as goal

pub loop-i-init : goal.loop-i-init
loop-i-init c =
    let a = c.args in let z : a.count - 0 ≡ a.count = omega arith in (c.requires.0, refl, rw z (storing-all a.table.now (long_entries a.count (drop header_length a.short.now))))

pub overflow_add-next : goal.overflow_add-next
overflow_add-next c = omega arith

pub slice_bounds-put_long-end : goal.slice_bounds-put_long-end
slice_bounds-put_long-end c = (ends_at c.args.short.now c.loop-i.start _ c.loop-i.invariant.0 c.end_of-end.ensures).inside

pub slice_bounds-put_long-count-in-loop-i : goal.slice_bounds-put_long-count-in-loop-i
slice_bounds-put_long-count-in-loop-i c = omega arith

pub slice_bounds-put_long-start-in-loop-i : goal.slice_bounds-put_long-start-in-loop-i
slice_bounds-put_long-start-in-loop-i c = omega arith

pub slice_bounds-put_long-end-in-loop-i : goal.slice_bounds-put_long-end-in-loop-i
slice_bounds-put_long-end-in-loop-i c = omega (arith, c.loop-i.invariant.1, c.loop-i.invariant.2.long, c.requires.2)

pub loop-i-preserved : goal.loop-i-preserved
loop-i-preserved c =
    let ends = ends_at c.args.short.now c.loop-i.start _ c.loop-i.invariant.0 c.end_of-end.ensures in
    let part = entry-part-long c.loop-i.table c.loop-i.at (omega (arith, c.loop-i.invariant.1, c.loop-i.invariant.2.long, c.requires.2)) in (
      ends.inside,
      omega (arith, c.loop-i.invariant.1),
      put-long-turn c.args.short.now c.args.count c.loop-i._i c.loop-i.start c.loop-i-test.true _ ends c.args.table.now c.loop-i.table _ c.loop-i.at (c.put_long.ensures ∙ filled-own _ _ (part ∙ sym (long-size _))) (omega (arith, c.loop-i.invariant.1, c.loop-i.invariant.2.long, c.requires.2)) c.loop-i.invariant.2,
    )

pub returns : goal.returns
returns c =
    let n : c.loop-i.at ≡ table_length c.args.count = omega (arith, c.loop-i.invariant.1) in rw n at (storing-end c.loop-i.invariant.2 (long-none c.args.short.now c.args.count c.loop-i._i c.loop-i.start c.loop-i-test.false))
