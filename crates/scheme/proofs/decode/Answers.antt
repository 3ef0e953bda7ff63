-- `decode` meets its contract: each scheme's own function does.
use Rattle.basis.proofs.Clauses.{two_clauses}
use Rattle.scheme.proofs.decode.Goals as goal

pub returns-in-Altdude : goal.returns-in-Altdude
returns-in-Altdude c =
    two_clauses (λ a b. record { result_value = a; text_after = b }) (rw c.in-Altdude.is (c.decode.ensures.result_value, c.decode.ensures.text_after))

pub returns-in-Lace : goal.returns-in-Lace
returns-in-Lace c =
    two_clauses (λ a b. record { result_value = a; text_after = b }) (rw c.in-Lace.is (c.decode-in-Lace.ensures.result_value, c.decode-in-Lace.ensures.text_after))

pub returns-in-Brace : goal.returns-in-Brace
returns-in-Brace c =
    two_clauses (λ a b. record { result_value = a; text_after = b }) (rw c.in-Brace.is (c.decode-in-Brace.ensures.result_value, c.decode-in-Brace.ensures.text_after))
