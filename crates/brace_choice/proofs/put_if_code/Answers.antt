-- `put_if_code` meets its contract: nothing is stored for LDH, any other unit itself.
use Rattle.basis.proofs.Stores.{stored-none, stored_one}
use Rattle.brace_choice.proofs.Styles.{code-skipped, code-kept}
use Rattle.brace_choice.proofs.put_if_code.Goals as goal

pub returns-then-is_ldh : goal.returns-then-is_ldh
returns-then-is_ldh c =
    rw (code-skipped _ _ c.is_ldh.ensures c.if-is_ldh.true) (stored-none _ _)

pub returns : goal.returns
returns c =
    rw (code-kept _ _ c.is_ldh.ensures c.if-is_ldh.false) (stored_one _ _ _)
