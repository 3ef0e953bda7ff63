-- The verdict on one short entry, as that on the long entry that it stands for.
use Prim.Native.Nat.{ℕ}
use mathlib.Core.Path.{◌≡◌, refl, sym, ap, ◌∙◌}
use mathlib.Core.Bool.{not}
use mathlib.Core.List.{List}
use lib.Dec.{ltb}
use lib.ListN.{length}
use Rattle.basis.specs.Tests.{within}
use Rattle.basis.specs.Rows.{at}
use Rattle.basis.specs.Outcome.{Outcome, refused, refused_if}
use Rattle.basis.proofs.Tests.{cases, within-high}
use Rattle.basis.proofs.Outcome.{stop-if, by-test}
use Rattle.scheme.specs.Naming.{kind_names, is_known}
use Rattle.nametable_format.specs.Format.{label_capacity, kind_of, reader_of, length_of}
use Rattle.nametable.specs.Answer.{form_tests, entry_judged}
use Rattle.nametable_short_format.specs.Format.{short_length_start, room_of, fewest_of, kind_for, short_length, long_of}
use Rattle.nametable_short_read.specs.Answer.{short_entry_judged}
use Rattle.nametable_short_format.proofs.EntryLaws.{room_small, kind-allows, other-kind-refuses, long-length, long_filled}

-- of another kind than its length asks it is malformed, and else the verdict is that on the long one
module _ (least : ℕ) (e : List ℕ) where
  pub other-kind-judged : (kind_for (at e short_length_start) ≡ kind_of e → ⊥) → short_entry_judged least e ≡ refused 14 0
  unfolding short_entry_judged entry_judged form_tests
  other-kind-judged other =
      by-test (λ o. o ≡ refused 14 0) _ 14 0 _ (λ _. refl)
      (λ _. by-test (λ o. o ≡ refused 14 0) _ 14 0 _ (λ _. refl)
      (λ _. stop-if 14 0 _ _ (ap not (other-kind-refuses (kind_of e) (length_of (long_of e)) (rw (long-length e) other)))))

  pub long-judged : kind_for (at e short_length_start) ≡ kind_of e → length e ≡ short_length (kind_of e) → short_entry_judged least e ≡ entry_judged 1 label_capacity least (long_of e)
  unfolding short_entry_judged entry_judged form_tests short_length
  long-judged is long =
      let n = length_of (long_of e) in
      let allowed : within (fewest_of (kind_of e)) (room_of (kind_of e)) n ≡ within 1 label_capacity n = rw (← is, ← long-length e) (kind-allows n) in
      ap (λ (o : Outcome). refused_if (not (is_known (kind_names (kind_of (long_of e))))) 14 0 (refused_if (ltb (reader_of (long_of e)) least) 14 0 o))
      (rw allowed
      (cases (within 1 label_capacity n)
      (λ w. rw (long_filled e (room_of (kind_of e)) long (room_small (kind_of e)) (within-high (fewest_of (kind_of e)) (room_of (kind_of e)) n (allowed ∙ w))))
      (λ w. stop-if 14 0 _ _ (ap not w) ∙ sym (stop-if 14 0 _ _ (ap not w)))))
