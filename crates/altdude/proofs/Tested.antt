-- What the tests of a text that passed the first tests answer, and that the buffer holds what it held.
use Prim.Native.Nat.{ℕ, ◌<◌}
use mathlib.Core.Path.{◌≡◌, refl, sym, ◌∙◌}
use mathlib.Core.Bool.{false}
use mathlib.Core.List.{List}
use lib.ListN.{length}
use Rattle.std.proofs.Common.{Err}
use Rattle.basis.specs.declared.Refusal.{Refusal}
use Rattle.basis.specs.declared.ErrorCode.TheVariants.{TooLong}
use Rattle.basis.specs.Outcome.{refused, outcome_by, bytes_outcome, buffer_after}
use Rattle.basis.proofs.Outcome.{pass-given, stop-below, refused-leaves, refusal_is}
use Rattle.ascii.specs.Ldh.{has_edge_hyphen}
use Rattle.altdude.specs.Encoding.{label_of}
use Rattle.altdude.specs.Answer.{label_outcome}

-- a label that is too long, of a text with no hyphen at an edge
module _ (t : List ℕ) (edge : has_edge_hyphen t ≡ false) (long : 63 < length (label_of t)) where
  long-refused : label_outcome t ≡ refused 3 0
  long-refused = pass-given 5 0 _ _ _ refl edge ∙ stop-below 3 0 _ 63 _ long

  pub long-answered : (refusal : Refusal) → refusal ≡ record { code = TooLong; position = 0 } → bytes_outcome (Err refusal) ≡ label_outcome t
  unfolding outcome_by
  long-answered refusal e = refusal_is e ∙ sym long-refused

  pub long-left : (values label : List ℕ) → label ≡ buffer_after (label_outcome t) values label
  long-left values label = (refused-leaves (label_outcome t) values label 3 0 long-refused).1

pub ruleset long_rules = (long-answered, long-left)
