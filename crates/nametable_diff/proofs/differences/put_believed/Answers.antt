-- `differences::put_believed` meets its contract: the report is on what is believed of both tables.
use mathlib.Core.Path.{◌≡◌}
use Rattle.streams.specs.Reading.{believed}
use Rattle.nametable_diff.proofs.Written.{report-written}
use Rattle.basis.proofs.Clauses.{two_clauses}
use Rattle.nametable_diff.proofs.differences.put_believed.Goals as goal

pub returns : goal.returns
returns c =
    let left : c.believed_bytes-left_table.result.now ≡ believed c.args.first c.args.left.now = c.believed_bytes-left_table.ensures in
    let right : c.believed_bytes-right_table.result.now ≡ believed c.args.second c.args.right.now = c.believed_bytes-right_table.ensures in
    two_clauses (λ a b. record { value = a; out_after = b }) (rw (← left, ← right) (report-written _ _ c.args.out.now _ c.requires _ c.write_report.ensures.result_value c.write_report.ensures.report_after _ c.bytes_written.ensures))
