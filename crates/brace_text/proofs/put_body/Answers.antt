-- The head gives the style and the queue with which the rest is read.
use Rattle.brace_text.proofs.Head.{body-read}
use Rattle.basis.proofs.Clauses.{two_clauses}
use Rattle.brace_text.proofs.put_body.Goals as goal

pub returns : goal.returns
returns c =
    let read = body-read c.args.body.now _ _ _ _ _ _ _ _ _ c.kind_of-kind.ensures c.head_length.ensures.value c.min.ensures c.split_at.ensures.front c.split_at.ensures.back
    c.head_number-number.ensures c.head_spare-spare.ensures.value c.head_style.ensures.value c.power.ensures in
    two_clauses (λ a b. record { value = a; units_after = b }) (rw (← read) (c.put_text.ensures.value, c.put_text.ensures.units_after))
