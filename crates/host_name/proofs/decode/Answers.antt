-- `decode` meets its contract: the room and the length are tested, the texts put together, and copied.
use mathlib.Core.Path.{sym, ap, ◌∙◌}
use mathlib.Core.List.{List, ◌++◌}
use Prim.Native.Nat.{ℕ}
use lib.ListN.{length, drop}
use lib.Seq.{length-take-le}
use native.Mathlib.Omega.{arith}
use Rattle.basis.specs.Outcome.{outcome_by}
use Rattle.basis.proofs.Outcome.{refusal_is, handed_on, refusal-leaves, done-leaves}
use Rattle.utf16.specs.Answer.{points_outcome}
use Rattle.host_name.specs.Answer.{text_of_name, decode_outcome}
use Rattle.host_name.proofs.Lengths.{name-text-fits}
use Rattle.host_name.proofs.NameLaws.{read-no-room, read-no-name, read-long, read_all, read_count}
use Rattle.basis.proofs.Clauses.{two_clauses}
use Rattle.host_name.proofs.decode.Goals as goal

pub returns-then-text-lt-ROOM : goal.returns-then-text-lt-ROOM
unfolding outcome_by
returns-then-text-lt-ROOM c =
    let a = c.args in
    two_clauses (λ a b. record { result_value = a; text_after = b }) (refusal-leaves (decode_outcome _ _) _ _ _ _ _ (refusal_is c.at.ensures) (read-no-room (length a.text.now) a.name.now (omega (arith, c.if-text-lt-ROOM.true))))

pub returns-then-name-eq0 : goal.returns-then-name-eq0
unfolding outcome_by
returns-then-name-eq0 c =
    let a = c.args in
    two_clauses (λ a b. record { result_value = a; text_after = b }) (refusal-leaves (decode_outcome _ _) _ _ _ _ _ (refusal_is c.at-then-name-eq0.ensures) (read-no-name (length a.text.now) a.name.now c.if-text-lt-ROOM.false c.if-name-eq0.true))

pub returns-then-name-gt-MOST_BYTES : goal.returns-then-name-gt-MOST_BYTES
unfolding outcome_by
returns-then-name-gt-MOST_BYTES c =
    let a = c.args in
    two_clauses (λ a b. record { result_value = a; text_after = b }) (refusal-leaves (decode_outcome _ _) _ _ _ _ _ (refusal_is c.at-then-name-gt-MOST_BYTES.ensures) (read-long (length a.text.now) a.name.now c.if-text-lt-ROOM.false c.if-name-eq0.false (omega (arith, c.if-name-gt-MOST_BYTES.true))))

pub slice_bounds-made-end : goal.slice_bounds-made-end
unfolding outcome_by
slice_bounds-made-end c =
    let name = c.args.name.now in
    let e = sym c.read_parts.ensures.result_value ∙ ap points_outcome c.in_ok-count.was in
    omega (arith, read_count name _ e, name-text-fits name, c.if-name-gt-MOST_BYTES.false)

pub slice_bounds-copy_from_slice-end : goal.slice_bounds-copy_from_slice-end
unfolding outcome_by
slice_bounds-copy_from_slice-end c =
    let name = c.args.name.now in
    let e = sym c.read_parts.ensures.result_value ∙ ap points_outcome c.in_ok-count.was in
    omega (arith, read_count name _ e, name-text-fits name, c.if-name-gt-MOST_BYTES.false, c.if-text-lt-ROOM.false)

pub slice_bounds-copy_from_slice-end-2 : goal.slice_bounds-copy_from_slice-end-2
unfolding outcome_by
slice_bounds-copy_from_slice-end-2 c =
    let name = c.args.name.now in
    let e = sym c.read_parts.ensures.result_value ∙ ap points_outcome c.in_ok-count.was in
    sym (length-take-le _ c.args.text.now (omega (arith, read_count name _ e, name-text-fits name, c.if-name-gt-MOST_BYTES.false, c.if-text-lt-ROOM.false)))

pub slice_bounds-copy_from_slice-end-3 : goal.slice_bounds-copy_from_slice-end-3
unfolding outcome_by
slice_bounds-copy_from_slice-end-3 c =
    let name = c.args.name.now in
    let e = sym c.read_parts.ensures.result_value ∙ ap points_outcome c.in_ok-count.was in
    read_count name _ e ∙ ap length (sym (c.read_parts.ensures.by_index _ e))

pub copy_from_slice-requires : goal.copy_from_slice-requires
unfolding outcome_by
copy_from_slice-requires c =
    let name = c.args.name.now in
    let e = sym c.read_parts.ensures.result_value ∙ ap points_outcome c.in_ok-count.was in
    length-take-le _ c.args.text.now (omega (arith, read_count name _ e, name-text-fits name, c.if-name-gt-MOST_BYTES.false, c.if-text-lt-ROOM.false)) ∙ read_count name _ e ∙ ap length (sym (c.read_parts.ensures.by_index _ e))

pub returns-in_err-count : goal.returns-in_err-count
unfolding outcome_by
returns-in_err-count c =
    let a = c.args in
    two_clauses (λ a b. record { result_value = a; text_after = b }) (refusal-leaves (decode_outcome _ _) _ _ _ _ _ (ap points_outcome (handed_on c.from_residual.ensures))
    (read_all (length a.text.now) a.name.now c.if-text-lt-ROOM.false c.if-name-eq0.false c.if-name-gt-MOST_BYTES.false ∙ sym c.read_parts.ensures.result_value ∙ ap points_outcome c.in_err-count.was))

pub returns : goal.returns
unfolding outcome_by
returns c =
    let a = c.args in
    let text = a.text.now in
    let values = text_of_name a.name.now in
    let e = sym c.read_parts.ensures.result_value ∙ ap points_outcome c.in_ok-count.was in
    let front = c.read_parts.ensures.by_index _ e in
    two_clauses (λ a b. record { result_value = a; text_after = b }) (done-leaves (decode_outcome _ _) values text _ _ (read_all (length text) a.name.now c.if-text-lt-ROOM.false c.if-name-eq0.false c.if-name-gt-MOST_BYTES.false ∙ e)
    (ap (λ (l : List ℕ). l ++ drop c.in_ok-count.count.0 text) (c.copy_from_slice.ensures.after ∙ front)))
