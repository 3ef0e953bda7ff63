-- `listing::put_refusal` meets its contract: the line has room, so it is written whole.
use Prim.Native.Nat.{ℕ, ◌≤◌}
use mathlib.Core.Path.{◌≡◌, ap}
use lib.ListN.{length}
use native.Mathlib.Omega.{arith}
use Rattle.basis.specs.Outcome.{number_of}
use Rattle.report.specs.Lines.{refused_at_line}
use Rattle.report.proofs.LineLaws.{line-written}
use Rattle.nametable_list.proofs.AllLines.{refusal-fits}
use Rattle.basis.proofs.Clauses.{two_clauses}
use Rattle.nametable_list.proofs.listing.put_refusal.Goals as goal

pub returns : goal.returns
returns c =
    let n = c.from in
    let a = c.args in
    let same : n.result ≡ number_of a.refusal.code = n.ensures in
    let fits : length (refused_at_line n.result a.refusal.position) ≤ length a.out.now = omega (arith, refusal-fits n.result a.refusal.position (omega arith) (omega arith)) in
    two_clauses (λ a b. record { value = a; out_after = b }) (line-written _ a.out.now (refused_at_line (number_of a.refusal.code) a.refusal.position) (ap (λ (k : ℕ). refused_at_line k a.refusal.position) same) (rw same at fits) _ _ (c.refused_at_line.ensures.result_value, c.refused_at_line.ensures.out_after) _ c.bytes_written.ensures)
