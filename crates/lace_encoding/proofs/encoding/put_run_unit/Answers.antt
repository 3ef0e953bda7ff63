-- A unit of the same high octet stores its low octet; another begins a run.
use Prim.Native.Nat.{◌/◌}
use mathlib.Core.Path.{sym, ap, ◌∙◌}
use lib.ListN.{get_or}
use Rattle.basis.proofs.Parts.{part-is}
use Rattle.lace_encoding.specs.Internal.{same_high}
use Rattle.lace_encoding.proofs.EncodeLaws.{put_low, put-start}
use Rattle.lace_encoding.proofs.encoding.put_run_unit.Goals as goal

pub returns-then-eq : goal.returns-then-eq
returns-then-eq c =
    put_low _ c.args.i c.args.before c.requires.0 _ _ (sym c.eq.ensures ∙ c.if-eq.true)

pub returns : goal.returns
returns c =
    let i = c.args.i in
    let units = c.args.units.now in
    put-start units i c.args.before c.requires.0 _ _ (sym c.eq.ensures ∙ c.if-eq.false) _ (c.run_length.ensures.value ∙ ap (same_high (get_or units i 0 / 256)) (part-is i units))
