-- Everything is tested before the first store: the capacity, the alphabet, the length, the spare bits.
use mathlib.Core.Path.{sym, ap, ◌∙◌}
use mathlib.Core.Bool.{not}
use native.Mathlib.Omega.{arith}
use lib.ListN.{length}
use borrow.Author.Tests.{not-true, not-false, eq-eqb, ne_eqb}
use Rattle.basis.specs.Outcome.{done, outcome_by}
use Rattle.basis.proofs.Outcome.{stop-if, pass-if, stop-short, pass-short, stop-found, pass-found, refused-leaves, done-leaves}
use Rattle.alphabet.specs.Alphabet.{lace, values_of}
use Rattle.base32.specs.Answer.{decode_outcome}
use Rattle.base32.proofs.Form.{length-unlawful, octet-lawful}
use Rattle.base32.proofs.Values.{length-values, none-outside}
use Rattle.basis.proofs.Clauses.{two_clauses}
use Rattle.base32.proofs.decode.Goals as goal

pub returns-then-octets-n : goal.returns-then-octets-n
unfolding outcome_by decode_outcome
returns-then-octets-n c =
    rw c.at.ensures (two_clauses (λ a b. record { result_value = a; octets_after = b }) (refused-leaves _ _ _ 1 0 (stop-short 1 0 _ _ _ c.octet_count-n.ensures _ (omega arith))))

pub returns-then-bad-characters : goal.returns-then-bad-characters
unfolding outcome_by decode_outcome
returns-then-bad-characters c =
    rw c.at-then-bad-characters.ensures (two_clauses (λ a b. record { result_value = a; octets_after = b }) (refused-leaves _ _ _ 7 _ (pass-short 1 0 _ _ _ c.octet_count-n.ensures _ (omega arith) ∙ stop-found 7 _ _ _ _ c.first_outside_lace-bad.ensures (omega arith))))

pub returns-then-not-lawful : goal.returns-then-not-lawful
unfolding outcome_by decode_outcome
returns-then-not-lawful c =
    let s = c.args.characters.now in
    rw c.at-then-not-lawful.ensures (two_clauses (λ a b. record { result_value = a; octets_after = b }) (refused-leaves _ _ _ 9 0
    (pass-short 1 0 _ _ _ c.octet_count-n.ensures _ (omega arith) ∙ pass-found 7 _ _ _ _ c.first_outside_lace-bad.ensures (omega arith)
    ∙ stop-if 9 0 _ _ (ap not (sym (length-unlawful (values_of lace s) (length s) (length-values lace s) (sym c.length_lawful-lawful.ensures ∙ not-true _ c.if-not-lawful.true-raw)))))))

pub octet-spare-requires : goal.octet-spare-requires
octet-spare-requires c =
    record {
      i_bound = omega arith;
      characters_value = none-outside lace c.args.characters.now _ c.first_outside_lace-bad.ensures (omega arith);
    }

pub returns-then-spare-ne0 : goal.returns-then-spare-ne0
unfolding outcome_by decode_outcome
returns-then-spare-ne0 c =
    let n = c.octet_count-n.ensures in
    let s = c.args.characters.now in
    rw c.at-then-spare-ne0.ensures (two_clauses (λ a b. record { result_value = a; octets_after = b }) (refused-leaves _ _ _ 9 0
    (pass-short 1 0 _ _ _ n _ (omega arith) ∙ pass-found 7 _ _ _ _ c.first_outside_lace-bad.ensures (omega arith)
    ∙ stop-if 9 0 _ _ (ap not (sym (octet-lawful (values_of lace s) (length s) (length-values lace s) _ _ (sym c.length_lawful-lawful.ensures ∙ not-false _ c.if-not-lawful.false-raw) n c.octet-spare.ensures)
    ∙ ne_eqb c.octet-spare.result 0 (λ z. omega arith))))))

pub put_octets-requires : goal.put_octets-requires
put_octets-requires c =
    record {
      n_value = c.octet_count-n.ensures;
      n_in_bounds = omega arith;
      characters_value = none-outside lace c.args.characters.now _ c.first_outside_lace-bad.ensures (omega arith);
    }

pub returns : goal.returns
unfolding outcome_by decode_outcome
returns c =
    let n = c.octet_count-n.ensures in
    let s = c.args.characters.now in
    two_clauses (λ a b. record { result_value = a; octets_after = b }) (done-leaves _ _ _ _ _
    (pass-short 1 0 _ _ _ n _ (omega arith) ∙ pass-found 7 _ _ _ _ c.first_outside_lace-bad.ensures (omega arith)
    ∙ pass-if 9 0 _ _ (ap not (sym (octet-lawful (values_of lace s) (length s) (length-values lace s) _ _ (sym c.length_lawful-lawful.ensures ∙ not-false _ c.if-not-lawful.false-raw) n c.octet-spare.ensures)
    ∙ eq-eqb c.octet-spare.result 0 (omega arith)))
    ∙ ap done (sym n))
    c.put_octets.ensures)
