-- `read` meets its contract: the header's own refusal, or the entries.
use mathlib.Core.Path.{sym, ◌∙◌}
use Rattle.basis.proofs.Outcome.{handed_on}
use Rattle.nametable.proofs.TableLaws.{header_refused, header-lawful}
use Rattle.nametable_short_format.specs.Format.{short_header_kind}
use Rattle.nametable_short_read.specs.Answer.{short_read_outcome}
use Rattle.nametable_short_read.proofs.TableLaws.{short-by-entries}
use Rattle.nametable_short_read.proofs.read.Goals as goal

pub returns-in_err-count : goal.returns-in_err-count
unfolding short_read_outcome
returns-in_err-count c = header_refused short_header_kind _ _ c.header.ensures _ c.in_err-count.was (handed_on c.from_residual.ensures)

pub judge-requires : goal.judge-requires
unfolding short_read_outcome
judge-requires c = (header-lawful short_header_kind _ _ c.header.ensures c.in_ok-count.was).0.long

pub returns : goal.returns
unfolding short_read_outcome
returns c =
    let h = header-lawful short_header_kind _ _ c.header.ensures c.in_ok-count.was in c.judge.ensures ∙ sym (short-by-entries _ h.0 h.1)
