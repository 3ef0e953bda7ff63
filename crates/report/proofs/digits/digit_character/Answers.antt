-- `digits::digit_character` meets its contract.
use borrow.Author.Tests.{lt-ltb, le-ltb}
use Rattle.report.specs.Digits.{digit_character}
use Rattle.report.proofs.digits.digit_character.Goals as goal

pub returns-then-digit-lt10 : goal.returns-then-digit-lt10
unfolding digit_character
returns-then-digit-lt10 c = rw (lt-ltb _ 10 c.if-digit-lt10.true)

pub returns : goal.returns
unfolding digit_character
returns c = rw (le-ltb _ 10 c.if-digit-lt10.false)
