-- `encoding::Progress::out_after` meets its contract: LDH leaves the bits out as they are.
use mathlib.Core.Path.{sym, ap, ◌∙◌}
use Rattle.brace_symbols.specs.Encoding.{out_after, spare_count}
use Rattle.brace_symbols.proofs.Codes.{width-over, width-top}
use Rattle.brace_symbols.proofs.encoding.Progress.out_after.Goals as goal

pub returns-then-is_ldh : goal.returns-then-is_ldh
unfolding out_after
returns-then-is_ldh c =
    record {
      value = rw (sym c.is_ldh.ensures ∙ c.if-is_ldh.true);
      upper_bound = c.args.self.few;
    }

pub spare_count-requires : goal.spare_count-requires
spare_count-requires c = (width-over _ _ _ _ c.width.ensures c.args.self.few, width-top _ _ _ c.width.ensures)

pub returns : goal.returns
unfolding out_after
returns c =
    record {
      value = rw (sym c.is_ldh.ensures ∙ c.if-is_ldh.false) (c.spare_count.ensures.value ∙ ap (spare_count _) c.width.ensures);
      upper_bound = c.spare_count.ensures.upper_bound;
    }
