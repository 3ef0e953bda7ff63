-- `signature::put_signature` meets its contract: four symbols are stored.
use Prim.Native.Nat.{◌+◌}
use mathlib.Core.Path.{refl}
use Rattle.basis.proofs.Stores.{stored-part}
use Rattle.brace_format.specs.Signature.{signature}
use Rattle.brace_symbols.proofs.signature.put_signature.Goals as goal

pub returns : goal.returns
unfolding signature
returns c = rw c.copy_from_slice.ensures.after (stored-part c.args.symbols.now signature c.args.at (c.args.at + 4) refl c.requires)
