-- `short_style` meets its contract: the style for the codes that were stored.
use native.Mathlib.Omega.{arith}
use Rattle.basis.proofs.Parts.{front-is, front_fits, front_long}
use Rattle.brace_choice.specs.Choice.{codes_of}
use Rattle.brace_choice.proofs.Styles.{codes-no-more, style-is}
use Rattle.brace_choice.proofs.short_style.Goals as goal

pub slice_bounds-codes-end : goal.slice_bounds-codes-end
slice_bounds-codes-end c =
    front_fits _ (codes_of c.args.units.now) _ _ c.put_codes-n.ensures.value c.put_codes-n.ensures.codes_after

pub slice_bounds-codes-end-2 : goal.slice_bounds-codes-end-2
slice_bounds-codes-end-2 c =
    front_long _ (codes_of c.args.units.now) _ _ c.put_codes-n.ensures.value c.put_codes-n.ensures.codes_after

pub invariant_of-codes : goal.invariant_of-codes
invariant_of-codes c =
    let t = c.args.units.now in
    omega (arith, front_long _ (codes_of t) _ _ c.put_codes-n.ensures.value c.put_codes-n.ensures.codes_after, c.put_codes-n.ensures.value, codes-no-more t)

pub returns : goal.returns
returns c =
    let t = c.args.units.now in
    style-is t _ _ (front-is _ (codes_of t) _ _ c.put_codes-n.ensures.value c.put_codes-n.ensures.codes_after) c.style.ensures
