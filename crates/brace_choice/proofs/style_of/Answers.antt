-- `style_of` meets its contract: the first 63 units decide.
use Rattle.std.proofs.Common.{sym, ◌≡◌, length, take, arith}
use lib.Seq.{length-take-le}
use Rattle.brace_choice.proofs.Styles.{style-whole}
use Rattle.brace_choice.proofs.style_of.Goals as goal

pub slice_bounds-short_style-end : goal.slice_bounds-short_style-end
slice_bounds-short_style-end c = sym (length-take-le 63 c.args.units.now (omega arith))

pub short_style-requires : goal.short_style-requires
short_style-requires c =
    let e : length (take 63 c.args.units.now) ≡ 63 = length-take-le 63 c.args.units.now (omega arith) in
    omega arith

pub returns : goal.returns
returns c = style-whole _ _ c.if-units-gt63.false c.short_style-2.ensures
