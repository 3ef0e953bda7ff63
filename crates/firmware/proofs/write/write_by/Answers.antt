-- `write::write_by` meets its contract: each test in its turn, and what passes them all is converted
-- and encoded.
use Prim.Native.Nat.{ℕ, ◌%◌, ◌≤◌}
use mathlib.Core.Path.{◌≡◌, refl, sym, ap, ◌∙◌}
use mathlib.Core.List.{List}
use lib.ListN.{length}
use native.Mathlib.Omega.{arith}
use Rattle.basis.specs.Outcome.{Outcome, bytes_outcome, and_then, outcome_by}
use Rattle.basis.proofs.Outcome.{stop-below, pass_below, stop-equal, pass-equal, refusal_is, handed_on, refusal-leaves, handed-leaves, and_then-refused-leaves, and_then-done-leaves}
use Rattle.utf16.specs.Bytes.{units_of_bytes, points_of}
use Rattle.utf16.specs.Answer.{points_outcome, is_odd, bytes_to_points_outcome}
use Rattle.utf16.proofs.Refusals.{points-judged, then-unpaired, points-fit, points-long, points-are}
use Rattle.scheme.specs.Coding.{encode_outcome}
use Rattle.scheme.specs.declared.Scheme.{Scheme}
use Rattle.firmware.specs.Answer.{write_by}
use Rattle.basis.proofs.Clauses.{two_clauses}
use Rattle.firmware.proofs.write.write_by.Goals as goal

-- past these tests
by-points : (s : Scheme) (capacity : ℕ) (bytes : List ℕ) → 63 ≤ capacity → (length bytes % 2 ≡ 1 → ⊥) → (length bytes ≡ 0 → ⊥) → length bytes ≤ 252
    → write_by s capacity bytes ≡ and_then (λ p. p) (bytes_to_points_outcome bytes 126) (encode_outcome s capacity (points_of bytes))
unfolding write_by is_odd
by-points s capacity bytes room even some short =
    let next = encode_outcome s capacity (points_of bytes) in
    pass_below 1 0 _ capacity 63 room ∙ pass-equal 12 0 _ (length bytes % 2) 1 even ∙ pass-equal 2 0 _ (length bytes) 0 some ∙ pass_below 3 0 _ 252 (length bytes) short
    ∙ sym (ap (λ (o : Outcome). and_then (λ p. p) o next) (points-judged bytes 126 even (omega arith)) ∙ then-unpaired (units_of_bytes bytes) (length (points_of bytes)) next)

pub returns-then-label-lt-LABEL_BYTES : goal.returns-then-label-lt-LABEL_BYTES
unfolding outcome_by write_by
returns-then-label-lt-LABEL_BYTES c =
    let a = c.args in
    two_clauses (λ a b. record { result_value = a; label_after = b }) (refusal-leaves _ _ _ _ 1 0 (refusal_is c.at.ensures) (stop-below 1 0 _ (length a.label.now) 63 (omega arith)))

pub returns-then-text-eq1 : goal.returns-then-text-eq1
unfolding outcome_by write_by is_odd
returns-then-text-eq1 c =
    let a = c.args in
    two_clauses (λ a b. record { result_value = a; label_after = b }) (refusal-leaves _ _ _ _ 12 0 (refusal_is c.at-then-text-eq1.ensures)
    (pass_below 1 0 _ (length a.label.now) 63 (omega arith) ∙ stop-equal 12 0 _ (length a.text.now % 2) 1 (omega arith)))

pub returns-then-text-eq0 : goal.returns-then-text-eq0
unfolding outcome_by write_by is_odd
returns-then-text-eq0 c =
    let a = c.args in
    let n = length a.text.now in
    two_clauses (λ a b. record { result_value = a; label_after = b }) (refusal-leaves _ _ _ _ 2 0 (refusal_is c.at-then-text-eq0.ensures)
    (pass_below 1 0 _ (length a.label.now) 63 (omega arith) ∙ pass-equal 12 0 _ (n % 2) 1 (λ e. omega arith) ∙ stop-equal 2 0 _ n 0 (omega arith)))

pub returns-then-text-gt-TEXT_BYTES : goal.returns-then-text-gt-TEXT_BYTES
unfolding outcome_by write_by is_odd
returns-then-text-gt-TEXT_BYTES c =
    let a = c.args in
    let n = length a.text.now in
    two_clauses (λ a b. record { result_value = a; label_after = b }) (refusal-leaves _ _ _ _ 3 0 (refusal_is c.at-then-text-gt-TEXT_BYTES.ensures)
    (pass_below 1 0 _ (length a.label.now) 63 (omega arith) ∙ pass-equal 12 0 _ (n % 2) 1 (λ e. omega arith) ∙ pass-equal 2 0 _ n 0 (λ e. omega arith)
    ∙ stop-below 3 0 _ 252 n (omega arith)))

pub slice_bounds-points-end : goal.slice_bounds-points-end
unfolding outcome_by
slice_bounds-points-end c =
    points-fit _ _ _ (sym c.bytes_to_points.ensures.result_value ∙ ap points_outcome c.in_ok-count.was) _ _ c.bytes_to_points.ensures.points_after

pub slice_bounds-encode-end : goal.slice_bounds-encode-end
unfolding outcome_by
slice_bounds-encode-end c =
    points-long _ _ _ (sym c.bytes_to_points.ensures.result_value ∙ ap points_outcome c.in_ok-count.was) _ _ c.bytes_to_points.ensures.points_after

pub returns-in_err-count : goal.returns-in_err-count
unfolding outcome_by
returns-in_err-count c =
    two_clauses (λ a b. record { result_value = a; label_after = b }) (handed-leaves _ _ _ _ _ _ _ (by-points _ _ _ (omega arith) (λ e. omega arith) (λ e. omega arith) (omega arith)) refl
    (and_then-refused-leaves _ _ _ _ _ _ _ (sym c.bytes_to_points.ensures.result_value ∙ ap points_outcome c.in_err-count.was) (ap bytes_outcome (handed_on c.from_residual.ensures))))

pub returns : goal.returns
unfolding outcome_by
returns c =
    let is = sym c.bytes_to_points.ensures.result_value ∙ ap points_outcome c.in_ok-count.was in
    let text = points-are _ _ _ is _ _ c.bytes_to_points.ensures.points_after in
    two_clauses (λ a b. record { result_value = a; label_after = b }) (handed-leaves _ _ _ _ _ _ _ (by-points _ _ _ (omega arith) (λ e. omega arith) (λ e. omega arith) (omega arith)) refl
    (and_then-done-leaves _ _ _ _ _ _ _ is (rw text at c.encode.ensures.result_value, rw text at c.encode.ensures.label_after)))
