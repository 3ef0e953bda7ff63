-- `encoding::signed_length` meets its contract: n symbols are counted, those of the units from i on are left.
use mathlib.Core.List.{◌++◌}
use Rattle.brace_format.specs.Signature.{signature}
use Rattle.brace_symbols.specs.Encoding.{body_of}
use Rattle.brace_symbols.proofs.Units.{Tallying}
use Rattle.brace_symbols.proofs.encoding.signed_length.Given as goal

abbrev pub invariant-loop-unit : goal.invariant-loop-unit
invariant-loop-unit l = Tallying (body_of l.fn.style l.units ++ signature) l.units l.n l.progress.style l.progress.copying l.progress.out l.unit-index
