-- With a quintet more the queue still fits.
use native.Mathlib.Omega.{arith}
use Rattle.brace_text.proofs.Bits.{longer_fits, longer_small}
use Rattle.brace_text.proofs.Queue.with.Goals as goal

pub overflow_mul-result : goal.overflow_mul-result
overflow_mul-result c = omega (arith, longer_small _ _ c.args.self.few c.args.self.fits)

pub overflow_add-result-2 : goal.overflow_add-result-2
overflow_add-result-2 c = omega (arith, longer_small _ _ c.args.self.few c.args.self.fits)

pub invariant_of-result : goal.invariant_of-result
invariant_of-result c = record { few = omega arith; fits = longer_fits _ _ _ c.args.self.fits c.requires.1 }
