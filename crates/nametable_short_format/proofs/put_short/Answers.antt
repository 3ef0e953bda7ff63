-- `put_short` meets its contract: a buffer of another length is left; else the five bytes before the
-- room, then the room.
use mathlib.Core.Path.{refl, sym, ap, ◌∙◌}
use mathlib.Core.List.{[], ◌∷◌}
use native.Mathlib.Omega.{arith}
use lib.ListN.{length, length-set}
use Rattle.nametable_short_format.specs.Format.{short_of}
use Rattle.nametable_short_format.proofs.EntryLaws.{room-long, short-stored, short-bounds, short-size, short-sized, filled-other, filled-own, length-filled}
use Rattle.nametable_short_format.proofs.put_short.Goals as goal

pub returns-then-short-room_of : goal.returns-then-short-room_of
returns-then-short-room_of c =
    filled-other (short_of c.args.entry.now) c.args.short.now (λ e. c.if-short-room_of.true (e ∙ short-size c.args.entry.now ∙ sym (short-sized c.args.entry.now c.byte_at-length.ensures c.kind_for-kind.ensures c.room_of.ensures.0)))

pub bounds-short-1 : goal.bounds-short-1
bounds-short-1 c = simp length-set (omega arith)

pub bounds-short : goal.bounds-short
bounds-short c = simp length-set (omega arith)

pub bounds-short-3 : goal.bounds-short-3
bounds-short-3 c = simp length-set (omega arith)

pub bounds-short-4 : goal.bounds-short-4
bounds-short-4 c = simp length-set (omega arith)

pub slice_bounds-put_fitted-count : goal.slice_bounds-put_fitted-count
slice_bounds-put_fitted-count c = simp length-set (omega arith)

pub slice_bounds-put_fitted-start : goal.slice_bounds-put_fitted-start
slice_bounds-put_fitted-start c = simp length-set (omega arith)

pub put_fitted-requires : goal.put_fitted-requires
put_fitted-requires c =
    let bounds = short-bounds _ _ (c.if-short-room_of.false ∙ short-sized c.args.entry.now c.byte_at-length.ensures c.kind_for-kind.ensures c.room_of.ensures.0) in
    record {
      start_le_short_label_start = omega arith;
      room_len_bound = omega (arith, bounds.1, room-long (c.kind_for-kind.result ∷ c.byte_at.result ∷ c.byte_at-2.result ∷ c.scheme_number.result ∷ c.byte_at-length.result ∷ []) c.args.short.now _ 5 refl bounds.0 refl);
    }

pub shape_of-short : goal.shape_of-short
shape_of-short c =
    ap length (let own = c.if-short-room_of.false ∙ short-sized c.args.entry.now c.byte_at-length.ensures c.kind_for-kind.ensures c.room_of.ensures.0 in short-stored c.args.entry.now c.args.short.now _ _ own c.byte_at-length.ensures c.kind_for-kind.ensures c.byte_at.ensures c.byte_at-2.ensures c.byte_at-3.ensures c.scheme_number.ensures refl c.put_fitted.ensures ∙ sym (filled-own _ _ (own ∙ sym (short-size _)))) ∙ length-filled _ _

pub returns : goal.returns
returns c =
    let own = c.if-short-room_of.false ∙ short-sized c.args.entry.now c.byte_at-length.ensures c.kind_for-kind.ensures c.room_of.ensures.0 in
    short-stored c.args.entry.now c.args.short.now _ _ own c.byte_at-length.ensures c.kind_for-kind.ensures c.byte_at.ensures c.byte_at-2.ensures c.byte_at-3.ensures c.scheme_number.ensures refl
    c.put_fitted.ensures
    ∙ sym (filled-own _ _ (own ∙ sym (short-size _)))
