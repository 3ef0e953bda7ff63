-- `answers::answer_last` meets its contract: one byte or more are a line, and no byte is none.
use mathlib.Core.Path.{refl}
use Rattle.bench_list.proofs.LastLine.{wrote-line, wrote_none}
use Rattle.basis.proofs.Clauses.{two_clauses}
use Rattle.bench_list.proofs.answers.answer_last.Goals as goal

pub returns-then-last-gt0 : goal.returns-then-last-gt0
returns-then-last-gt0 c =
    two_clauses (λ a b. record { value = a; out_after = b }) (wrote-line _ _ c.believed_bytes-last.ensures _ _ _ c.if-last-gt0.true (c.answer_line.ensures.value, c.answer_line.ensures.out_after))

pub returns : goal.returns
returns c =
    two_clauses (λ a b. record { value = a; out_after = b }) (wrote_none _ _ c.believed_bytes-last.ensures _ _ _ c.if-last-gt0.false (refl, refl))
