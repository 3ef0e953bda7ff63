-- `moves::put_short_entries` meets its contract: the short entries from i on are left to store.
use Prim.Native.Nat.{◌-◌}
use mathlib.Core.Path.{◌≡◌, refl, sym, ◌∙◌}
use native.Mathlib.Omega.{arith}
use lib.ListN.{drop}
use Rattle.basis.proofs.Stores.{storing-all, storing-end}
use Rattle.nametable_format.specs.Format.{header_length}
use Rattle.nametable_short_format.proofs.EntryLaws.{short-size, filled-own}
use Rattle.nametable_short.specs.Answer.{short_entries}
use Rattle.nametable_short.proofs.MoveLaws.{storing-done, short_none, next-inside, put-short-room, put-short-turn}
use Rattle.nametable_short.proofs.moves.put_short_entries.Goals as goal

pub loop-i-init : goal.loop-i-init
loop-i-init c =
    let a = c.args in let z : a.count - 0 ≡ a.count = omega arith in (omega arith, rw z (storing-all a.short.now (short_entries a.count (drop header_length a.table.now))))

pub overflow_mul-start : goal.overflow_mul-start
overflow_mul-start c = omega arith

pub overflow_add-start : goal.overflow_add-start
overflow_add-start c = omega arith

pub overflow_add-end : goal.overflow_add-end
overflow_add-end c = omega arith

pub overflow_add-start-in-loop-i : goal.overflow_add-start-in-loop-i
overflow_add-start-in-loop-i c = omega arith

pub bounds-table-start : goal.bounds-table-start
bounds-table-start c = omega arith

pub overflow_add-next-in-loop-i : goal.overflow_add-next-in-loop-i
overflow_add-next-in-loop-i c = omega arith

pub slice_bounds-put_short-count : goal.slice_bounds-put_short-count
slice_bounds-put_short-count c = omega arith

pub slice_bounds-put_short-start : goal.slice_bounds-put_short-start
slice_bounds-put_short-start c = omega arith

pub slice_bounds-put_short-end : goal.slice_bounds-put_short-end
slice_bounds-put_short-end c = omega arith

pub slice_bounds-put_short-count-in-loop-i : goal.slice_bounds-put_short-count-in-loop-i
slice_bounds-put_short-count-in-loop-i c = omega arith

pub slice_bounds-put_short-start-in-loop-i : goal.slice_bounds-put_short-start-in-loop-i
slice_bounds-put_short-start-in-loop-i c = omega arith

pub slice_bounds-put_short-end-in-loop-i : goal.slice_bounds-put_short-end-in-loop-i
slice_bounds-put_short-end-in-loop-i c =
    next-inside c.args.table.now c.args.count c.loop-i.i c.loop-i-test.true c.args.short.now c.loop-i.short c.loop-i.at refl c.kind_for-kind.ensures c.room_of.ensures.0 c.requires.table_in_bounds c.loop-i.invariant.1

pub loop-i-preserved : goal.loop-i-preserved
loop-i-preserved c =
    let room = put-short-room c.args.table.now c.args.count c.loop-i.i c.loop-i-test.true refl c.kind_for-kind.ensures c.room_of.ensures.0 c.loop-i.short c.loop-i.at (next-inside c.args.table.now c.args.count c.loop-i.i c.loop-i-test.true c.args.short.now c.loop-i.short c.loop-i.at refl c.kind_for-kind.ensures c.room_of.ensures.0 c.requires.table_in_bounds c.loop-i.invariant.1) in
    (omega arith, put-short-turn c.args.table.now c.args.count c.loop-i.i c.loop-i-test.true refl c.kind_for-kind.ensures c.room_of.ensures.0 c.loop-i.short c.loop-i.at (next-inside c.args.table.now c.args.count c.loop-i.i c.loop-i-test.true c.args.short.now c.loop-i.short c.loop-i.at refl c.kind_for-kind.ensures c.room_of.ensures.0 c.requires.table_in_bounds c.loop-i.invariant.1) c.args.short.now _ (c.put_short.ensures ∙ filled-own _ _ (room ∙ sym (short-size _))) c.loop-i.invariant.1)

pub returns : goal.returns
returns c =
    storing-done c.args.short.now _ _ _ (storing-end c.loop-i.invariant.1 (short_none c.args.table.now c.args.count c.loop-i.i c.loop-i-test.false))
