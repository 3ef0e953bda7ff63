-- `lines::put_refusal` meets its contract: the line has room, so it is written whole.
use Prim.Native.Nat.{ℕ, ◌≤◌}
use mathlib.Core.Path.{◌≡◌, ap}
use lib.ListN.{length}
use native.Mathlib.Omega.{arith}
use Rattle.basis.specs.Outcome.{number_of}
use Rattle.report.specs.Lines.{side_refused_line}
use Rattle.report.proofs.LineLaws.{line-written}
use Rattle.nametable_differences.proofs.LineLaws.{refusal-fits}
use Rattle.basis.proofs.Clauses.{two_clauses}
use Rattle.nametable_differences.proofs.lines.put_refusal.Goals as goal

pub returns : goal.returns
returns c =
    let a = c.args in
    let n = c.from-number in
    let whole = side_refused_line a.side.now (number_of a.refusal.code) a.refusal.position in
    let same : n.result ≡ number_of a.refusal.code = n.ensures in
    let fits : length (side_refused_line a.side.now n.result a.refusal.position) ≤ length a.out.now
    = omega (arith, refusal-fits a.side.now n.result a.refusal.position c.requires.side_len_bound (omega arith) (omega arith), c.requires.report_capacity_in_bounds) in
    two_clauses (λ a b. record { value = a; out_after = b }) (line-written _ a.out.now whole (ap (λ (k : ℕ). side_refused_line a.side.now k a.refusal.position) same) (rw same at fits) _ _ (c.side_refused_line.ensures.result_value, c.side_refused_line.ensures.out_after) _ c.bytes_written.ensures)
