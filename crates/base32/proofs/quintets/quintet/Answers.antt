-- The two octets are the window that holds the quintet.
use native.Mathlib.Omega.{arith}
use Rattle.basis.specs.Rows.{at}
use Rattle.base32.proofs.Windows.{quintet-window}
use Rattle.base32.proofs.quintets.quintet.Goals as goal

pub returns : goal.returns
returns c =
    let a = c.args in
    quintet-window (at a.octets.now) a.i _ _ (λ k. omega (arith, c.type_inv.octets k)) c.octet_at-x.ensures.value c.octet_at-y.ensures.value
