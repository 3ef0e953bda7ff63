-- `entries::read_short` meets its contract: another kind than the length asks, or the long entry
-- read.
use mathlib.Core.Path.{refl, sym, ap, ◌∙◌}
use Rattle.std.proofs.Common.{Err}
use native.Mathlib.Omega.{arith}
use Rattle.nametable.proofs.EntryLaws.{refusal-answers}
use Rattle.nametable_short_format.proofs.EntryLaws.{long-size, short-bounds, filled-own}
use Rattle.nametable_short_read.proofs.StepLaws.{other-kind-read, read-as-long}
use Rattle.basis.proofs.Clauses.{two_clauses}
use Rattle.nametable_short_read.proofs.entries.read_short.Goals as goal

pub bounds-short-4 : goal.bounds-short-4
bounds-short-4 c = omega (arith, (short-bounds _ _ c.requires.short_len).0)

pub bounds-short-0 : goal.bounds-short-0
bounds-short-0 c = omega (arith, (short-bounds _ _ c.requires.short_len).0)

pub returns-then-kind-short : goal.returns-then-kind-short
returns-then-kind-short c =
    two_clauses (λ a b. record { result_value = a; text_after = b }) (refusal-answers _ _ _ _ _ refl (ap Err c.at.ensures) (other-kind-read _ _ _ c.kind_for-kind.ensures c.if-kind-short.true))

pub returns : goal.returns
returns c =
    record {
      result_value = rw (c.put_long.ensures ∙ filled-own _ _ (sym (long-size _)), read-as-long c.args.least c.args.position c.args.short.now c.kind_for-kind.ensures (omega arith) c.requires.short_len _ c.requires.text_capacity_in_bounds) at c.lone_entry.ensures.result_value;
      text_after = rw (c.put_long.ensures ∙ filled-own _ _ (sym (long-size _)), read-as-long c.args.least c.args.position c.args.short.now c.kind_for-kind.ensures (omega arith) c.requires.short_len _ c.requires.text_capacity_in_bounds) at c.lone_entry.ensures.text_after;
    }
