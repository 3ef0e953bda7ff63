-- `encode` meets its contract: the room and the text are tested, the labels put together, and what fits is copied.
use mathlib.Core.Path.{sym, ap, ◌∙◌}
use mathlib.Core.List.{List, ◌++◌}
use Prim.Native.Nat.{ℕ}
use lib.ListN.{length, drop}
use lib.Seq.{length-take-le}
use native.Mathlib.Omega.{arith}
use Rattle.basis.specs.Outcome.{bytes_outcome, outcome_by}
use Rattle.basis.proofs.Outcome.{refusal_is, handed_on, refusal-leaves, done-leaves}
use Rattle.host_name.specs.Answer.{name_of, encode_outcome}
use Rattle.host_name.proofs.NameLaws.{write-no-room, write-empty, write-refused, write-long, write-count, write_done}
use Rattle.basis.proofs.Clauses.{two_clauses}
use Rattle.host_name.proofs.encode.Goals as goal

pub returns-then-name-lt-ROOM : goal.returns-then-name-lt-ROOM
unfolding outcome_by
returns-then-name-lt-ROOM c =
    let a = c.args in
    two_clauses (λ a b. record { result_value = a; name_after = b }) (refusal-leaves (encode_outcome _ _) _ _ _ _ _ (refusal_is c.at.ensures) (write-no-room (length a.name.now) a.text.now (omega (arith, c.if-name-lt-ROOM.true))))

pub returns-then-text-eq0 : goal.returns-then-text-eq0
unfolding outcome_by
returns-then-text-eq0 c =
    let a = c.args in
    two_clauses (λ a b. record { result_value = a; name_after = b }) (refusal-leaves (encode_outcome _ _) _ _ _ _ _ (refusal_is c.at-then-text-eq0.ensures) (write-empty (length a.name.now) a.text.now c.if-name-lt-ROOM.false c.if-text-eq0.true))

pub returns-then-n-gt-MOST_BYTES : goal.returns-then-n-gt-MOST_BYTES
unfolding outcome_by
returns-then-n-gt-MOST_BYTES c =
    let a = c.args in
    let e = sym c.write_parts.ensures.result_value ∙ ap bytes_outcome c.in_ok-count.was in
    two_clauses (λ a b. record { result_value = a; name_after = b }) (refusal-leaves (encode_outcome _ _) _ _ _ _ _ (refusal_is c.at-then-n-gt-MOST_BYTES.ensures) (write-long (length a.name.now) a.text.now c.if-name-lt-ROOM.false c.if-text-eq0.false _ e (omega (arith, c.if-n-gt-MOST_BYTES.true))))

pub slice_bounds-copy_from_slice-end : goal.slice_bounds-copy_from_slice-end
slice_bounds-copy_from_slice-end c = omega (arith, c.if-n-gt-MOST_BYTES.false, c.if-name-lt-ROOM.false)

pub slice_bounds-copy_from_slice-end-2 : goal.slice_bounds-copy_from_slice-end-2
slice_bounds-copy_from_slice-end-2 c = sym (length-take-le _ c.args.name.now (omega (arith, c.if-n-gt-MOST_BYTES.false, c.if-name-lt-ROOM.false)))

pub slice_bounds-copy_from_slice-end-3 : goal.slice_bounds-copy_from_slice-end-3
unfolding outcome_by
slice_bounds-copy_from_slice-end-3 c =
    let a = c.args in
    let e = sym c.write_parts.ensures.result_value ∙ ap bytes_outcome c.in_ok-count.was in
    write-count (length a.name.now) a.text.now c.if-name-lt-ROOM.false c.if-text-eq0.false _ e c.if-n-gt-MOST_BYTES.false ∙ ap length (sym (c.write_parts.ensures.by_index _ e c.if-n-gt-MOST_BYTES.false))

pub copy_from_slice-requires : goal.copy_from_slice-requires
unfolding outcome_by
copy_from_slice-requires c =
    let a = c.args in
    let e = sym c.write_parts.ensures.result_value ∙ ap bytes_outcome c.in_ok-count.was in
    length-take-le _ a.name.now (omega (arith, c.if-n-gt-MOST_BYTES.false, c.if-name-lt-ROOM.false)) ∙ write-count (length a.name.now) a.text.now c.if-name-lt-ROOM.false c.if-text-eq0.false _ e c.if-n-gt-MOST_BYTES.false ∙ ap length (sym (c.write_parts.ensures.by_index _ e c.if-n-gt-MOST_BYTES.false))

pub returns-in_err-count : goal.returns-in_err-count
unfolding outcome_by
returns-in_err-count c =
    let a = c.args in
    let e = sym c.write_parts.ensures.result_value ∙ ap bytes_outcome c.in_err-count.was in
    two_clauses (λ a b. record { result_value = a; name_after = b }) (refusal-leaves (encode_outcome _ _) _ _ _ _ _ (ap bytes_outcome (handed_on c.from_residual.ensures)) (write-refused (length a.name.now) a.text.now c.if-name-lt-ROOM.false c.if-text-eq0.false e))

pub returns : goal.returns
unfolding outcome_by
returns c =
    let a = c.args in
    let name = a.name.now in
    let e = sym c.write_parts.ensures.result_value ∙ ap bytes_outcome c.in_ok-count.was in
    let front = c.write_parts.ensures.by_index _ e c.if-n-gt-MOST_BYTES.false in
    two_clauses (λ a b. record { result_value = a; name_after = b }) (done-leaves (encode_outcome _ _) (name_of a.text.now) name _ _ (write_done (length name) a.text.now c.if-name-lt-ROOM.false c.if-text-eq0.false _ e c.if-n-gt-MOST_BYTES.false)
    (ap (λ (l : List ℕ). l ++ drop c.in_ok-count.count.0 name) (c.copy_from_slice.ensures.after ∙ front)))
