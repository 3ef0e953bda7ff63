-- Rows of other lengths differ; of one length each byte is to be read as its symbol.
use mathlib.Core.Bool.{true, false}
use mathlib.Core.Path.{◌≡◌}
use borrow.Author.Tests.{tests}
use Rattle.std.proofs.Common.{rules}
use Rattle.std.proofs.lemmas.Iterator.{YieldsList-from_slice, YieldsList-from_zip, cases_from_all}
use Rattle.alphabet.specs.Alphabet.{brace}
use Rattle.copying.specs.Symbols.{is_for}
use Rattle.brace_decoding.proofs.Comparison.{lengths_differ, pairs-for}
use Rattle.brace_decoding.proofs.decoding.are_for.Goals as goal

pub returns-then-symbols-bytes : goal.returns-then-symbols-bytes
returns-then-symbols-bytes c = lengths_differ _ _ c.if-symbols-bytes.true

pub returns : goal.returns
returns c =
    pairs-for _ _ c.if-symbols-bytes.false _ (cases_from_all c.all.new.self _ _ (λ p. is_for brace p.0 p.1 ≡ true) (λ p. is_for brace p.0 p.1 ≡ false) c.all.ensures.ran
    (YieldsList-from_zip (YieldsList-from_slice c.args.symbols.now cc) (YieldsList-from_slice c.args.bytes.now cc)) (λ x q k. search (rules, tests)) (λ x q k. search (rules, tests)))
