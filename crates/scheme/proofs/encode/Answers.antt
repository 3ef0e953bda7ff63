-- `encode` meets its contract: each scheme's own function does.
use Rattle.basis.proofs.Clauses.{two_clauses}
use Rattle.scheme.proofs.encode.Goals as goal

pub returns-in-Altdude : goal.returns-in-Altdude
returns-in-Altdude c =
    two_clauses (λ a b. record { result_value = a; label_after = b }) (rw c.in-Altdude.is (c.encode.ensures.result_value, c.encode.ensures.label_after))

pub returns-in-Lace : goal.returns-in-Lace
returns-in-Lace c =
    two_clauses (λ a b. record { result_value = a; label_after = b }) (rw c.in-Lace.is (c.encode-in-Lace.ensures.result_value, c.encode-in-Lace.ensures.label_after))

pub returns-in-Brace : goal.returns-in-Brace
returns-in-Brace c =
    two_clauses (λ a b. record { result_value = a; label_after = b }) (rw c.in-Brace.is (c.encode-in-Brace.ensures.result_value, c.encode-in-Brace.ensures.label_after))
