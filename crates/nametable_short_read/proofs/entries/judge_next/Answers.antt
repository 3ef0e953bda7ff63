-- `entries::judge_next` meets its contract: each test answers in its turn, then the entry.
use mathlib.Core.Path.{refl}
use Rattle.basis.proofs.Outcome.{handed_on}
use native.Mathlib.Omega.{arith}
use Rattle.nametable_short_read.proofs.StepLaws.{no-byte-left, no-short-kind, not-whole, part-whole, step-refused, step-good}
use Rattle.nametable_short_read.proofs.entries.judge_next.Goals as goal

pub returns-then-start-table : goal.returns-then-start-table
returns-then-start-table c = rw c.at.ensures (no-byte-left _ _ _ _ c.if-start-table.true)

pub returns-then-room-eq0 : goal.returns-then-room-eq0
returns-then-room-eq0 c =
    rw c.at-then-room-eq0.ensures (no-short-kind c.args.table.now c.args.start _ _ c.requires (λ e. c.if-start-table.false e) refl c.room_of-room.ensures.0 c.if-room-eq0.true)

pub returns-then-table-start : goal.returns-then-table-start
returns-then-table-start c =
    rw c.at-then-table-start.ensures (not-whole c.args.table.now c.args.start _ _ c.requires (λ e. c.if-start-table.false e) refl c.room_of-room.ensures.0 (λ e. c.if-room-eq0.false e) c.if-table-start.true)

pub judge_short-requires : goal.judge_short-requires
judge_short-requires c =
    part-whole c.args.table.now c.args.start c.args.least c.args.index c.requires (λ e. c.if-start-table.false e) refl c.room_of-room.ensures.0 (λ e. c.if-room-eq0.false e) (omega arith)

pub returns-in_err-entry : goal.returns-in_err-entry
returns-in_err-entry c =
    rw (handed_on c.from_residual.ensures) (step-refused c.args.table.now c.args.start c.args.least c.args.index c.requires (λ e. c.if-start-table.false e) refl c.room_of-room.ensures.0 (λ e. c.if-room-eq0.false e) (omega arith) _ c.judge_short.ensures c.in_err-entry.was)

pub returns : goal.returns
returns c =
    step-good c.args.table.now c.args.start c.args.least c.args.index c.requires (λ e. c.if-start-table.false e) refl c.room_of-room.ensures.0 (λ e. c.if-room-eq0.false e) (omega arith) _ c.judge_short.ensures c.in_ok-entry.was
