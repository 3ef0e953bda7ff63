-- A receiver in a variable as a receiver in memory, which can be lent, and back.
use mathlib.Core.List.{[], ◌∷◌, List}
use Prim.Native.Nat.{ℕ}
use seplogic.Ra.Ura.{Ura}
use base.Fraction.{full_share}
use mir.Val.{Val}
use base.Logic.{ent, sep}
use base.Fml.{GName, fat, fsep}
use types.Logic.{Logic, sem}
use types.Kit.{‵, ◌$◌, ◌∵◌, !, qed, use1, fsplit, fjoin, fpick, fpack, done}
use denote.Laws.{Is, shows}
use denote.Memory.{mem, cell_at, part_of}
use denote.Ref.{MutBor}
use denote.Struct.Steps.{spelt}
use Rattle.nametable_receiver.specs.declared.Receiver.{Receiver}
use Rattle.nametable_receiver.specs.contracts.Receiver as R
use Rattle.nametable_receiver.proofs.Receiver.TheLaws as R'

-- the machine values of a receiver, and a reference to one in the block b
abbrev pub vals : Receiver → List Val
vals d = R'.lowered d ∷ []

abbrev pub ref : ℕ → GName → Receiver → MutBor Receiver
ref b δ h = record { ref_ptr = (b, 0); ghost_name = δ; now = h }

module _ {M : Type 1} {𝓤 : Ura M} (𝓛 : Logic 𝓤) (h : Receiver) (b : ℕ) where
  pub lies_in : ent 𝓤 (sep 𝓤 (sem 𝓛 (fat full_share R'.mir b 0 (R'.lowered h))) (sem 𝓛 ((R.the_row).own_val h (vals h)))) (sem 𝓛 ((mem R.the_row).own_at h b 0))
  unfolding part_of
  lies_in =
      qed 𝓛 (‵ (fat full_share R'.mir b 0 (R'.lowered h)) ∷ ‵ ((R.the_row).own_val h (vals h)) ∷ []) ∵ use1 𝓛 (‵ (cell_at full_share (R.the_row).mir (vals h) b 0)) (𝓛.laws.at_raw full_share R'.mir b 0 (R'.lowered h)) $
      fjoin ! $ fpack ! (List Val) (λ us. fsep (cell_at full_share (R.the_row).mir us b 0) ((R.the_row).own_val h us)) (vals h) $ done !

  pub lies_out : ent 𝓤 (sem 𝓛 ((mem R.the_row).own_at h b 0)) (sem 𝓛 (fsep (fat full_share R'.mir b 0 (R'.lowered h)) ((R.the_row).own_val h (vals h))))
  unfolding part_of
  lies_out =
      qed 𝓛 (‵ ((mem R.the_row).own_at h b 0) ∷ []) ∵ fpick ! (λ vs. fsplit ! $ spelt ! R.the_row (Is R.the_row) (shows 𝓛 R.the_row) vals (R'.lowers).val_is full_share h vs b 0 $
      use1 𝓛 (‵ (fat full_share R'.mir b 0 (R'.lowered h))) (𝓛.laws.raw_at full_share R'.mir b 0 (R'.lowered h)) $ fjoin ! $ done !)
