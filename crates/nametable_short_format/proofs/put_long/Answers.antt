-- `put_long` meets its contract: a buffer of another length is left; else the four bytes before the
-- room, then the room.
use mathlib.Core.Path.{◌≡◌, refl, sym, ap, ◌∙◌}
use mathlib.Core.List.{[], ◌∷◌}
use native.Mathlib.Omega.{arith}
use lib.ListN.{length, length-set}
use Rattle.nametable_short_format.specs.Format.{long_of}
use Rattle.nametable_short_format.proofs.EntryLaws.{room-long, long-stored, long-size, filled-own, length-filled}
use Rattle.nametable_short_format.proofs.put_long.Goals as goal

pub bounds-entry-1 : goal.bounds-entry-1
bounds-entry-1 c = simp length-set (omega arith)

pub bounds-entry : goal.bounds-entry
bounds-entry c = simp length-set (omega arith)

pub bounds-entry-3 : goal.bounds-entry-3
bounds-entry-3 c = simp length-set (omega arith)

pub slice_bounds-put_fitted-count : goal.slice_bounds-put_fitted-count
slice_bounds-put_fitted-count c = simp length-set (omega arith)

pub slice_bounds-put_fitted-start : goal.slice_bounds-put_fitted-start
slice_bounds-put_fitted-start c = simp length-set (omega arith)

pub put_fitted-requires : goal.put_fitted-requires
put_fitted-requires c =
    let own : length c.args.entry.now ≡ 67 = omega arith in
    record {
      start_le_short_label_start = omega arith;
      room_len_bound = omega (arith, own, room-long (c.long_kind.result ∷ c.byte_at-2.result ∷ c.byte_at-3.result ∷ c.byte_at-4.result ∷ []) c.args.entry.now _ 4 refl (omega (arith, own)) refl);
    }

pub shape_of-entry : goal.shape_of-entry
shape_of-entry c =
    ap length (long-stored c.args.short.now c.args.entry.now _ _ (omega arith) c.byte_at.ensures c.long_kind.ensures c.byte_at-2.ensures c.byte_at-3.ensures c.byte_at-4.ensures refl c.put_fitted.ensures ∙ sym (filled-own (long_of c.args.short.now) c.args.entry.now (omega (arith, long-size c.args.short.now)))) ∙ length-filled _ _

pub returns : goal.returns
returns c =
    long-stored c.args.short.now c.args.entry.now _ _ (omega arith) c.byte_at.ensures c.long_kind.ensures c.byte_at-2.ensures c.byte_at-3.ensures c.byte_at-4.ensures refl c.put_fitted.ensures
    ∙ sym (filled-own (long_of c.args.short.now) c.args.entry.now (omega (arith, long-size c.args.short.now)))
