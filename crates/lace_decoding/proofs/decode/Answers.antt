-- Each test answers in its turn, and what follows the prefix is read as Base32 and then as octets.
use Prim.Native.Nat.{ℕ}
use mathlib.Core.Path.{◌≡◌, refl, sym, ap, ◌∙◌}
use mathlib.Core.List.{List}
use lib.ListN.{length}
use mathlib.Core.Bool.{not}
use lib.Seq.{length-take-le}
use Prim.Native.Nat.{◌≤◌}
use lib.ListN.{take, length-take}
use native.Mathlib.Omega.{arith}
use Rattle.std.proofs.Common.{rules, Result, Ok, Err, tests}
use Rattle.std.specs.Result.{MatchResult, IsErrAnd, is_ok}
use Rattle.basis.specs.Outcome.{outcome_by, refused, number_of}
use Rattle.basis.specs.declared.ByteCount.{ByteCount}
use Rattle.basis.specs.declared.Refusal.{Refusal}
use Rattle.basis.proofs.Tests.{true-not-false}
use Rattle.utf16.specs.Answer.{points_outcome}
use Rattle.lace_decoding.specs.Internal.{error_after_prefix}
use Rattle.basis.proofs.Outcome.{handed_on, stop-given, refused-leaves}
use Rattle.ascii.specs.Ldh.{is_host_label}
use Rattle.ascii.specs.Prefix.{has_prefix}
use Rattle.labels.proofs.FirstTests.{check-stops, check-passes, label-checked}
use Rattle.lace_format.specs.Prefix.{prefix}
use Rattle.lace_decoding.specs.Answer.{decode_outcome}
use Rattle.lace_decoding.proofs.DecodeLaws.{prefix-fits, position-small, count_small, answer-error, answer-octets}
use Rattle.basis.proofs.Clauses.{two_clauses}
use Rattle.lace_decoding.proofs.decode.Goals as goal

pub returns-in_err-check_label : goal.returns-in_err-check_label
unfolding outcome_by decode_outcome
returns-in_err-check_label c =
    rw (handed_on c.from_residual.ensures) (two_clauses (λ a b. record { result_value = a; text_after = b }) (refused-leaves (decode_outcome is_host_label _ c.args.label.now) _ _ _ _
    (check-stops _ _ c.check_label.ensures _ c.in_err-check_label.was)))

pub returns-then-not-prefixed : goal.returns-then-not-prefixed
unfolding outcome_by decode_outcome
returns-then-not-prefixed c =
    let l = c.args.label.now in
    rw c.at.ensures (two_clauses (λ a b. record { result_value = a; text_after = b }) (refused-leaves (decode_outcome is_host_label _ l) _ _ 8 0
    (check-passes _ _ c.check_label.ensures _ c.in_ok-check_label.was
    ∙ stop-given 8 0 _ _ (not (has_prefix prefix l)) (ap not c.has_prefix-prefixed.ensures) c.if-not-prefixed.true-raw)))

pub slice_bounds-decode-count : goal.slice_bounds-decode-count
slice_bounds-decode-count c = prefix-fits _ _ c.has_prefix-prefixed.ensures c.if-not-prefixed.false-raw

pub slice_bounds-decode-start : goal.slice_bounds-decode-start
slice_bounds-decode-start c = prefix-fits _ _ c.has_prefix-prefixed.ensures c.if-not-prefixed.false-raw

pub map_err-requires : goal.map_err-requires
map_err-requires c =
    let checked = label-checked _ c.in_ok-check_label.was _ _ c.check_label.ensures in
    λ refusal is. position-small c.args.label.now checked.short _ c.decode.ensures.result_value refusal is

-- an answer with its refusal mapped is done as it was, and is refused as the map says
module _ (answer mapped : Result ByteCount Refusal) (Gave : Refusal → Refusal → Type 0)
    (by : MatchResult answer (λ count. mapped ≡ Ok count) (λ refusal. IsErrAnd mapped (Gave refusal))) where
  mapped-done : (count : ByteCount) → mapped ≡ Ok count → answer ≡ Ok count
  mapped-done count e = done-by answer by
    where
      done-by : (a : Result ByteCount Refusal) → MatchResult a (λ count. mapped ≡ Ok count) (λ refusal. IsErrAnd mapped (Gave refusal)) → a ≡ Ok count
      done-by (Ok n) b = sym b ∙ e
      done-by (Err refusal) b = absurd (rw e at b)

  mapped-refused : (given : Refusal) → mapped ≡ Err given → (refusal : Refusal) × (answer ≡ Err refusal) × Gave refusal given
  mapped-refused given e = refused-by answer by
    where
      refused-by : (a : Result ByteCount Refusal) → MatchResult a (λ count. mapped ≡ Ok count) (λ refusal. IsErrAnd mapped (Gave refusal)) → (refusal : Refusal) × (a ≡ Err refusal) × Gave refusal given
      refused-by (Ok n) b = absurd (true-not-false (ap is_ok b) (ap is_ok e))
      refused-by (Err refusal) b = (refusal, refl, rw e at b)

pub slice_bounds-octets-end : goal.slice_bounds-octets-end
slice_bounds-octets-end c =
    let checked = label-checked _ c.in_ok-check_label.was _ _ c.check_label.ensures in
    omega (arith, count_small c.args.label.now checked.short _ c.decode.ensures.result_value _ (mapped-done _ _ _ c.map_err.ensures.cases _ c.in_ok-count.was))

pub slice_bounds-decode_octets-end : goal.slice_bounds-decode_octets-end
slice_bounds-decode_octets-end c =
    let checked = label-checked _ c.in_ok-check_label.was _ _ c.check_label.ensures in
    sym (length-take-le _ _ (omega (arith, count_small c.args.label.now checked.short _ c.decode.ensures.result_value _ (mapped-done _ _ _ c.map_err.ensures.cases _ c.in_ok-count.was))))

-- so many octets at the front are so many
front-few : (n : ℕ) (xs : List ℕ) → n ≤ 36 → length (take n xs) ≤ 36
front-few n xs h = omega (arith, length-take n xs)

pub decode_octets-requires : goal.decode_octets-requires
decode_octets-requires c =
    let checked = label-checked _ c.in_ok-check_label.was _ _ c.check_label.ensures in
    (front-few _ _ (omega (arith, count_small c.args.label.now checked.short _ c.decode.ensures.result_value _ (mapped-done _ _ _ c.map_err.ensures.cases _ c.in_ok-count.was))), checked.room)

pub returns-in_err-count : goal.returns-in_err-count
unfolding outcome_by
returns-in_err-count c =
    let given = c.in_err-count.field-0.0 in
    let r = mapped-refused _ _ _ c.map_err.ensures.cases _ c.in_err-count.was in
    let told : refused (number_of given.code) given.position ≡ error_after_prefix (number_of r.0.code) r.0.position = let gave = r.2 in search (rules, tests) in
    two_clauses (λ a b. record { result_value = a; text_after = b }) (answer-error _ _ (label-checked _ c.in_ok-check_label.was _ _ c.check_label.ensures) _ c.has_prefix-prefixed.ensures c.if-not-prefixed.false-raw
    _ c.decode.ensures.result_value _ r.1 _ (ap points_outcome (handed_on c.from_residual-in_err-count.ensures) ∙ told))

pub returns : goal.returns
unfolding outcome_by
returns c =
    two_clauses (λ a b. record { result_value = a; text_after = b }) (answer-octets _ _ (label-checked _ c.in_ok-check_label.was _ _ c.check_label.ensures) _ c.has_prefix-prefixed.ensures c.if-not-prefixed.false-raw
    _ c.decode.ensures.result_value _ (mapped-done _ _ _ c.map_err.ensures.cases _ c.in_ok-count.was) _ _ c.decode.ensures.octets_after _ _ (c.decode_octets.ensures.result_value, c.decode_octets.ensures.text_after))
