-- `writing::write_dot` meets its contract: before the first label it writes nothing, and the count is at most 254 already.
use Prim.Native.Nat.{◌+◌}
use mathlib.Core.Path.{◌≡◌, sym}
use lib.ListN.{length}
use native.Mathlib.Omega.{arith}
use Rattle.host_name.specs.Internal.{dot_before}
use Rattle.host_name.proofs.Placing.{capped-kept}
use Rattle.host_name.proofs.writing.write_dot.Goals as goal

pub returns-then-index-eq0-clause-value : goal.returns-then-index-eq0-clause-value
returns-then-index-eq0-clause-value c =
    let same : c.args.at + length (dot_before c.args.index) ≡ c.args.at = rw c.if-index-eq0.true (omega arith) in
    rw same (sym (capped-kept c.args.at c.requires))
