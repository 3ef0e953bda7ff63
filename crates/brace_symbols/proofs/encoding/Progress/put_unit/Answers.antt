-- `encoding::Progress::put_unit` meets its contract: two hyphens, a letter that is copied, or a code.
use mathlib.Core.Path.{sym, ap, ◌∙◌}
use lib.ListN.{length}
use native.Mathlib.Omega.{arith}
use lib.ListN.{length-set}
use Rattle.brace_symbols.proofs.Units.{ldh-byte, unit-hyphen, unit-letter, unit-code, stored_two}
use Rattle.brace_symbols.proofs.encoding.Progress.put_unit.Goals as goal

pub bounds-symbols-at : goal.bounds-symbols-at
bounds-symbols-at c =
    omega (arith, ap length (unit-hyphen c.args.self.style c.args.self.copying c.args.self.out _ c.args.next.now c.if-unit-eq45.true), c.requires)

pub bounds-symbols-at-then-unit-eq45 : goal.bounds-symbols-at-then-unit-eq45
bounds-symbols-at-then-unit-eq45 c =
    rw length-set (omega (arith, ap length (unit-hyphen c.args.self.style c.args.self.copying c.args.self.out _ c.args.next.now c.if-unit-eq45.true), c.requires))

pub returns-then-unit-eq45 : goal.returns-then-unit-eq45
returns-then-unit-eq45 c =
    rw (unit-hyphen c.args.self.style c.args.self.copying c.args.self.out _ c.args.next.now c.if-unit-eq45.true) (stored_two _ _ _ _)

pub put_letter-requires : goal.put_letter-requires
put_letter-requires c =
    record {
      unit_bound = ldh-byte _ (sym c.is_ldh.ensures ∙ c.if-is_ldh.true);
      unit_in_bounds = rw (unit-letter c.args.self.style c.args.self.copying c.args.self.out _ c.args.next.now c.if-unit-eq45.false _ c.is_ldh.ensures c.if-is_ldh.true) at c.requires;
    }

pub returns-then-is_ldh : goal.returns-then-is_ldh
returns-then-is_ldh c =
    rw (unit-letter c.args.self.style c.args.self.copying c.args.self.out _ c.args.next.now c.if-unit-eq45.false _ c.is_ldh.ensures c.if-is_ldh.true) c.put_letter.ensures

pub put_coded-requires : goal.put_coded-requires
put_coded-requires c =
    rw (unit-code c.args.self.style c.args.self.copying c.args.self.out _ c.args.next.now c.if-unit-eq45.false _ c.is_ldh.ensures c.if-is_ldh.false) at c.requires

pub returns : goal.returns
returns c =
    rw (unit-code c.args.self.style c.args.self.copying c.args.self.out _ c.args.next.now c.if-unit-eq45.false _ c.is_ldh.ensures c.if-is_ldh.false) c.put_coded.ensures
