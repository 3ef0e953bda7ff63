-- `encode` meets its contract: the capacity is tested, then what the symbols answer is handed on, or their bytes are written.
use mathlib.Core.Path.{sym, ap, ◌∙◌}
use native.Mathlib.Omega.{arith}
use Rattle.basis.specs.Outcome.{bytes_outcome, outcome_by}
use Rattle.basis.proofs.Outcome.{refusal-leaves, handed_on}
use Rattle.brace.specs.Answer.{encode_outcome}
use Rattle.brace_symbols.proofs.Labels.{pass-capacity, symbols-few, symbols-fit, symbols-long, label-put}
use Rattle.basis.proofs.Clauses.{two_clauses}
use Rattle.brace.proofs.encode.Goals as goal

pub slice_bounds-symbols-end : goal.slice_bounds-symbols-end
unfolding outcome_by
slice_bounds-symbols-end c =
    symbols-fit _ _ _ _ (c.put_symbols.ensures.result_value, c.put_symbols.ensures.symbols_after) _ (ap bytes_outcome c.in_ok-count.was)

pub slice_bounds-put_bytes-end : goal.slice_bounds-put_bytes-end
unfolding outcome_by
slice_bounds-put_bytes-end c =
    symbols-long _ _ _ _ (c.put_symbols.ensures.result_value, c.put_symbols.ensures.symbols_after) _ (ap bytes_outcome c.in_ok-count.was)

pub put_bytes-written-requires : goal.put_bytes-written-requires
unfolding outcome_by
put_bytes-written-requires c =
    let n = ap bytes_outcome c.in_ok-count.was in
    omega (arith, symbols-long _ _ _ _ (c.put_symbols.ensures.result_value, c.put_symbols.ensures.symbols_after) _ n, symbols-few _ _ _ _ (c.put_symbols.ensures.result_value, c.put_symbols.ensures.symbols_after) _ n)

pub returns-in_err-count : goal.returns-in_err-count
unfolding outcome_by
returns-in_err-count c =
    two_clauses (λ a b. record { result_value = a; label_after = b }) (refusal-leaves (encode_outcome _ _) _ _ _ _ _ (ap bytes_outcome (handed_on c.from_residual.ensures))
    (pass-capacity _ _ (omega arith) ∙ sym c.put_symbols.ensures.result_value ∙ ap bytes_outcome c.in_err-count.was))

pub returns : goal.returns
unfolding outcome_by
returns c =
    two_clauses (λ a b. record { result_value = a; label_after = b }) (label-put _ _ _ _ (c.put_symbols.ensures.result_value, c.put_symbols.ensures.symbols_after) _ (ap bytes_outcome c.in_ok-count.was) _ _ _ (omega arith) (c.put_bytes-written.ensures.value, c.put_bytes-written.ensures.label_after))
