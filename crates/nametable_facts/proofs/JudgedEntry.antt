-- What `nametable::judged_entry` answers and leaves for an entry that is found.
use Prim.Native.Nat.{ℕ}
use mathlib.Core.Path.{◌≡◌, sym, ap, ◌∙◌}
use mathlib.Core.List.{List, ◌++◌}
use lib.ListN.{length, drop}
use Rattle.std.proofs.Common.{Result, Ok, Err}
use Rattle.basis.specs.Outcome.{done, buffer_after}
use Rattle.basis.specs.declared.Refusal.{Refusal}
use Rattle.basis.proofs.Outcome.{done-not-refused, done-count}
use Rattle.scheme.specs.Naming.{number_of}
use Rattle.nametable_format.specs.Format.{entry_at, reader_of, scheme_in}
use Rattle.nametable.specs.Answer.{entry_text, judged_entry_outcome, entry_outcome, entry_from}
use Rattle.nametable.specs.declared.ReadEntry.{ReadEntry}
use Rattle.nametable.proofs.TableLaws.{from-refused, from_found}

module _ (t : List ℕ) (i capacity : ℕ) (found : judged_entry_outcome t i capacity ≡ done (length (entry_text t i)))
    (answer : Result ReadEntry Refusal) (a : entry_outcome answer ≡ entry_from (entry_at t i) (judged_entry_outcome t i capacity)) where
  pub never-error : (refusal : Refusal) → answer ≡ Err refusal → ⊥
  unfolding entry_outcome
  never-error refusal g = done-not-refused found (from-refused _ _ (sym a ∙ ap entry_outcome g))

  -- the answer's parts are those of the entry
  module _ (entry : ReadEntry) (g : answer ≡ Ok entry) where
    pub answered-parts : (judged_entry_outcome t i capacity ≡ done entry.count.0) × (entry.reader ≡ reader_of (entry_at t i)) × (number_of entry.scheme ≡ number_of (scheme_in (entry_at t i)))
    unfolding entry_outcome
    answered-parts = from_found _ _ (sym a ∙ ap entry_outcome g)

    pub answered-count : entry.count.0 ≡ length (entry_text t i)
    answered-count = done-count answered-parts.0 found

  -- the buffer of the points that was old and is now
  pub answered-points : (old now : List ℕ) → now ≡ buffer_after (judged_entry_outcome t i capacity) (entry_text t i) old → now ≡ entry_text t i ++ drop (length (entry_text t i)) old
  unfolding buffer_after
  answered-points old now b = b ∙ rw found
