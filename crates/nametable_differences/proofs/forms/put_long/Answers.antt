-- `forms::put_long` meets its contract: a table that is refused is not copied.
use Prim.Native.Nat.{ℕ}
use mathlib.Core.List.{List, ◌++◌}
use lib.ListN.{length, drop}
use lib.Seq.{take_all}
use mathlib.Core.Path.{sym, ap, ◌∙◌}
use native.Mathlib.Omega.{arith}
use Rattle.basis.specs.Outcome.{done, outcome_by, bytes_outcome}
use Rattle.basis.proofs.Outcome.{refusal-leaves, done-leaves, handed_on}
use Rattle.nametable.specs.Answer.{table_outcome}
use Rattle.nametable.proofs.TableLaws.{read_table}
use Rattle.nametable_differences.proofs.FormLaws.{copied, long-refused, long-done}
use Rattle.basis.proofs.Clauses.{two_clauses}
use Rattle.nametable_differences.proofs.forms.put_long.Goals as goal

pub copy-requires : goal.copy-requires
unfolding outcome_by
copy-requires c =
    let w = read_table _ _ (sym c.read.ensures ∙ ap table_outcome c.in_ok-read.was) in
    omega (arith, w.long, w.few, w.counted, c.requires.most_entries_in_bounds)

pub returns-in_err-read : goal.returns-in_err-read
unfolding outcome_by
returns-in_err-read c =
    two_clauses (λ a b. record { result_value = a; long_after = b }) (refusal-leaves _ _ _ _ _ _ (ap bytes_outcome (handed_on c.from_residual.ensures)) (long-refused _ c.requires.table_value (sym c.read.ensures ∙ ap table_outcome c.in_err-read.was)))

pub returns : goal.returns
unfolding outcome_by
returns c =
    let t = c.args.table.now in
    let whole = sym c.read.ensures ∙ ap table_outcome c.in_ok-read.was in
    two_clauses (λ a b. record { result_value = a; long_after = b }) (done-leaves _ _ _ _ _ (long-done t c.requires.table_value whole ∙ ap done (sym c.copy.ensures.count)) (c.copy.ensures.long_after ∙ ap (λ (l : List ℕ). l ++ drop (length t) c.args.long.now) (sym (take_all (length t) t (omega arith))) ∙ copied t c.requires.table_value _ _ c.copy.ensures.count))
