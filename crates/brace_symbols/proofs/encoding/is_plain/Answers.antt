-- `encoding::is_plain` meets its contract: a host label that is not signed.
use mathlib.Core.Path.{ap, ◌∙◌}
use Rattle.basis.proofs.Lists.{map-self}
use Rattle.brace_format.specs.Signature.{is_signed}
use Rattle.brace_symbols.proofs.Signed.{signed-not-plain, plain-by-host}
use Rattle.brace_symbols.proofs.encoding.is_plain.Goals as goal

pub returns-then-is_signed : goal.returns-then-is_signed
returns-then-is_signed c = signed-not-plain c.args.units.now c.is_signed.result (c.is_signed.ensures ∙ ap is_signed (map-self c.args.units.now)) c.if-is_signed.true

pub returns : goal.returns
returns c =
    plain-by-host c.args.units.now c.is_signed.result (c.is_signed.ensures ∙ ap is_signed (map-self c.args.units.now)) c.if-is_signed.false _ c.units_are_host_label.ensures
