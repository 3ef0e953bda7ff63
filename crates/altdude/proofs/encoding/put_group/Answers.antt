-- `encoding::put_group` meets its contract: the digits of y are left to store, below index j.
use mathlib.Core.Path.{refl, sym, ◌∙◌}
use native.Mathlib.Omega.{arith}
use mathlib.Core.List.{[]}
use lib.ListN.{length-set, length-map}
use Rattle.altdude.specs.Symbols.{byte_of}
use Rattle.altdude.specs.Encoding.{group_of}
use Rattle.altdude.proofs.EncodeLaws.{group-length, digits-length, digits-some, digits-over, put_low, put-high, put-none}
use Rattle.altdude.proofs.encoding.put_group.Goals as goal

pub overflow_sub-last : goal.overflow_sub-last
overflow_sub-last c = omega (arith, group-length c.args.x)

pub bounds-label-last : goal.bounds-label-last
bounds-label-last c = omega (arith, group-length c.args.x)

pub loop-j-init : goal.loop-j-init
loop-j-init c = (refl, omega (arith, group-length c.args.x), refl, simp length-set (omega arith))

pub loop-j-preserved : goal.loop-j-preserved
loop-j-preserved c =
    let l = c.loop-j in
    let h = digits-some l.y (omega (arith, c.loop-j-test.true, l.invariant.1)) in (
      put-high _ _ _ _ _ h l.invariant.1 c.byte_of-in-loop-j.ensures ∙ l.invariant.0,
      omega (arith, digits-length l.y h),
      rw length-set l.invariant.2,
      omega arith,
    )

pub shape_of-label : goal.shape_of-label
shape_of-label c = c.loop-j.invariant.2 ∙ simp length-set

pub returns : goal.returns
returns c =
    let g = c.group_length.ensures in
    record {
      stores = sym (put-none _ _ _ (digits-over c.loop-j.y (omega arith))) ∙ c.loop-j.invariant.0 ∙ put_low _ _ _ _ _ g c.byte_of.ensures;
      count = omega (arith, g, length-map (group_of c.args.x []) byte_of);
      long = c.loop-j.invariant.2 ∙ simp length-set;
    }
