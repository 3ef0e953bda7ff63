-- `has_prefix` meets its contract: a label that is too short has none, and else its front is compared, byte by byte.
use mathlib.Core.Bool.{true, false}
use mathlib.Core.Path.{◌≡◌}
use lib.Dec.{eqb}
use borrow.Author.Tests.{tests}
use Rattle.std.proofs.Common.{rules}
use Rattle.std.proofs.lemmas.Iterator.{YieldsList-from_slice, YieldsList-from_zip, cases_from_all}
use Rattle.ascii.specs.Case.{small}
use Rattle.ascii.proofs.Prefix.{prefix-short, prefix-compared, pairs-alike}
use Rattle.ascii.proofs.has_prefix.Goals as goal

pub returns-then-label-prefix : goal.returns-then-label-prefix
returns-then-label-prefix c = prefix-short _ _ c.if-label-prefix.true

pub returns : goal.returns
returns c =
    prefix-compared _ _ c.if-label-prefix.false _ (pairs-alike _ _ c.if-label-prefix.false _ (cases_from_all c.all.new.self _ _ (λ p. eqb (small p.0) (small p.1) ≡ true) (λ p. eqb (small p.0) (small p.1) ≡ false) c.all.ensures.ran
    (YieldsList-from_zip (YieldsList-from_slice c.args.label.now cc) (YieldsList-from_slice c.args.prefix.now cc)) (λ x q k. search (rules, tests)) (λ x q k. search (rules, tests))))
