-- `encoding::put_signed` meets its contract: the head, the units and the signature are stored one after another.
use native.Mathlib.Omega.{arith}
use Rattle.basis.proofs.Clauses.{two_clauses}
use Rattle.brace_symbols.proofs.Labels.{head-fits, units-fit, signature-fits, signed-put}
use Rattle.brace_symbols.proofs.encoding.put_signed.Goals as goal

pub put_code-head-requires : goal.put_code-head-requires
put_code-head-requires c =
    let a = c.args in
    record {
      k_bound = (omega arith, omega arith, omega (arith, c.head_width-width.ensures.upper_bound), c.head_value-value.ensures.upper_bound);
      width_in_bounds = head-fits _ a.units.now a.symbols.now _ _ c.head_width-width.ensures.value c.head_value-value.ensures.value c.requires;
    }

pub put_units-body-requires : goal.put_units-body-requires
put_units-body-requires c = units-fit _ _ _ _ _ c.head_width-width.ensures.value c.head_value-value.ensures.value c.requires c.put_code-head.ensures

pub put_signature-requires : goal.put_signature-requires
put_signature-requires c = signature-fits _ _ _ _ _ c.head_width-width.ensures.value c.head_value-value.ensures.value c.requires c.put_code-head.ensures c.put_units-body.ensures

pub returns : goal.returns
returns c =
    two_clauses (λ a b. record { value = a; symbols_after = b }) (signed-put _ _ _ _ _ c.head_width-width.ensures.value c.head_value-value.ensures.value c.requires c.put_code-head.ensures c.put_units-body.ensures c.put_signature.ensures)
