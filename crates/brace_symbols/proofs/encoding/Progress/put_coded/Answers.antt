-- `encoding::Progress::put_coded` meets its contract: the quintets of the code, after a hyphen if letters were being copied.
use mathlib.Core.Path.{ap, ◌∙◌}
use lib.ListN.{length, length-set}
use native.Mathlib.Omega.{arith}
use Rattle.basis.proofs.Stores.{stored_one, stored-append}
use Rattle.brace_symbols.proofs.Codes.{width-over, width-top}
use Rattle.brace_symbols.proofs.Units.{length-code, code-copying, code-alone}
use Rattle.brace_symbols.proofs.encoding.Progress.put_coded.Goals as goal

pub bounds-symbols-at : goal.bounds-symbols-at
bounds-symbols-at c = omega (arith, ap length (code-copying _ c.args.self.out _ _ _ c.args.next.now c.width-width.ensures c.code-code.ensures.value c.args.self.copying c.if-self.true))

pub put_code-requires : goal.put_code-requires
put_code-requires c =
    let w = c.width-width.ensures in
    record {
      k_bound = (c.args.self.few, width-over _ _ _ _ w c.args.self.few, width-top _ _ _ w, c.code-code.ensures.upper_bound);
      width_in_bounds = rw length-set (omega (arith, ap length (code-copying _ c.args.self.out _ _ _ c.args.next.now c.width-width.ensures c.code-code.ensures.value c.args.self.copying c.if-self.true), length-code c.args.self.style c.args.self.out c.width-width.result c.code-code.result c.args.next.now));
    }

pub shape_of-symbols-then-self : goal.shape_of-symbols-then-self
shape_of-symbols-then-self c = c.put_code.ensures.long ∙ length-set _ _ _

pub returns-then-self : goal.returns-then-self
returns-then-self c = rw (code-copying _ c.args.self.out _ _ _ c.args.next.now c.width-width.ensures c.code-code.ensures.value c.args.self.copying c.if-self.true) (stored-append (stored_one _ _ 45) c.put_code.ensures)

pub put_code-requires-2 : goal.put_code-requires-2
put_code-requires-2 c =
    let w = c.width-width.ensures in
    record {
      k_bound = (c.args.self.few, width-over _ _ _ _ w c.args.self.few, width-top _ _ _ w, c.code-code.ensures.upper_bound);
      width_in_bounds = omega (arith, ap length (code-alone _ c.args.self.out _ _ _ c.args.next.now c.width-width.ensures c.code-code.ensures.value c.args.self.copying c.if-self.false), length-code c.args.self.style c.args.self.out c.width-width.result c.code-code.result c.args.next.now);
    }

pub returns : goal.returns
returns c = rw (code-alone _ c.args.self.out _ _ _ c.args.next.now c.width-width.ensures c.code-code.ensures.value c.args.self.copying c.if-self.false) c.put_code-2.ensures
