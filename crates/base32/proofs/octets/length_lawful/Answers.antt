-- A length that leaves 1 or 3 is not lawful, and of any other 6 decides.
use native.Mathlib.Omega.{arith}
use Rattle.base32.proofs.Form.{one-unlawful, three-unlawful, six-decides}
use Rattle.base32.proofs.octets.length_lawful.Goals as goal

pub returns-then-rest-eq1 : goal.returns-then-rest-eq1
returns-then-rest-eq1 c = one-unlawful c.args.n (omega arith)

pub returns-then-rest-eq3 : goal.returns-then-rest-eq3
returns-then-rest-eq3 c = three-unlawful c.args.n (omega arith)

pub returns : goal.returns
returns c = six-decides c.args.n (λ e. omega arith) (λ e. omega arith)
