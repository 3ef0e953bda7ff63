-- The capacity is tested before the first store.
use mathlib.Core.Path.{sym, ap, ◌∙◌}
use Rattle.basis.specs.Outcome.{done, outcome_by}
use Rattle.basis.proofs.Outcome.{stop-short, pass-short, refused-leaves, done-leaves}
use Rattle.base32.specs.Answer.{encode_outcome}
use Rattle.basis.proofs.Clauses.{two_clauses}
use Rattle.base32.proofs.encode.Goals as goal

pub returns-then-characters-n : goal.returns-then-characters-n
unfolding outcome_by encode_outcome
returns-then-characters-n c =
    rw c.at.ensures (two_clauses (λ a b. record { result_value = a; characters_after = b }) (refused-leaves _ _ _ 1 0 (stop-short 1 0 _ _ _ c.quintet_count-n.ensures _ c.if-characters-n.true)))

pub returns : goal.returns
unfolding outcome_by encode_outcome
returns c =
    let n = c.quintet_count-n.ensures in
    two_clauses (λ a b. record { result_value = a; characters_after = b }) (done-leaves _ _ _ _ _ (pass-short 1 0 _ _ _ n _ c.if-characters-n.false ∙ ap done (sym n)) c.put_characters.ensures)
