-- When a text goes out as it is.
use Prim.Native.Nat.{ℕ}
use mathlib.Core.Path.{◌≡◌, sym, ◌∙◌}
use mathlib.Core.Bool.{Bool, true, false}
use mathlib.Core.List.{List}
use Rattle.basis.proofs.Tests.{both_false, both_left}
use Rattle.ascii.specs.Ldh.{is_all_ldh, is_host_label}
use Rattle.brace_format.specs.Signature.{is_signed}
use Rattle.brace_format.proofs.Signed.{both-same}
use Rattle.brace_symbols.specs.Encoding.{is_plain}

-- a text goes out as it is, by the tests as they are answered
module _ (t : List ℕ) (signed : Bool) (es : signed ≡ is_signed t) where
  pub signed-not-plain : signed ≡ true → false ≡ is_plain t
  unfolding is_plain
  signed-not-plain e = rw (sym es ∙ e) (sym (both_false (is_host_label t)))

  pub plain-by-host : signed ≡ false → (host : Bool) → host ≡ is_host_label t → host ≡ is_plain t
  unfolding is_plain
  plain-by-host e host eh = rw (sym es ∙ e) (eh ∙ sym (both-same (is_host_label t)))

-- and then it is a host label
pub plain-host : (t : List ℕ) → is_plain t ≡ true → is_host_label t ≡ true
unfolding is_plain
plain-host t e = both_left _ _ e

pub plain-ldh : (t : List ℕ) → is_plain t ≡ true → is_all_ldh t ≡ true
unfolding is_host_label
plain-ldh t e = both_left _ _ (plain-host t e)
