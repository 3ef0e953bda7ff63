-- Laws on what is held of a line: the first bytes of a buffer and of a part stored behind them.
use Prim.Native.Nat.{ℕ, zero, suc, ◌+◌, ◌-◌, ◌≤◌, min}
use mathlib.Core.Path.{◌≡◌, refl, sym, ap, ◌∙◌}
use mathlib.Core.List.{List, [], ◌∷◌, ◌++◌, append_assoc}
use borrow.Rule.Slice.PartMut.{put_mid}
use lib.ListN.{length, take, drop, length-append, length-take}
use lib.Seq.{length-take-le, take_all, take-append-add, drop-drop}
use native.Mathlib.Omega.{arith}
use Rattle.basis.proofs.Tests.{by-lt}
use Rattle.lines.specs.Step.{in_front}

-- holding the first bytes of what is held already and more is holding those of all
pub take-held : (limit : ℕ) (held more : List ℕ) → take limit (take limit held ++ more) ≡ take limit (held ++ more)
take-held zero held more = refl
take-held (suc limit) [] more = refl
take-held (suc limit) (b ∷ held) more = ap (λ (l : List ℕ). b ∷ l) (take-held limit held more)

-- a part that was stored behind the bytes held, as far as there is room: the first bytes of both are in front
module _ (old : List ℕ) (held : ℕ) (part : List ℕ) (end : ℕ) (inside : held ≤ length old) (is : end ≡ min (length old) (held + length part)) where
  abbrev whole : List ℕ
  whole = take (length old) (take held old ++ part)

  all-room : take (length old - held) part ≡ take (end - held) part
  all-room =
      by-lt (length part) (length old - held)
      (λ h. take_all (length old - held) part (omega arith) ∙ sym (take_all (end - held) part (omega arith)))
      (λ h. let e : length old - held ≡ end - held = omega arith in ap (λ (n : ℕ). take n part) e)

  whole-is : whole ≡ take held old ++ take (end - held) part
  whole-is =
      let e : length old ≡ length (take held old) + (length old - held) = omega (arith, length-take-le held old inside) in
      ap (λ (n : ℕ). take n (take held old ++ part)) e ∙ take-append-add (take held old) part (length old - held) ∙ ap (λ (l : List ℕ). take held old ++ l) all-room

  whole-long : held + (end - held) ≡ length whole
  whole-long = omega (arith, ap length whole-is, length-append (take held old) (take (end - held) part), length-take-le held old inside, length-take (end - held) part)

  pub kept-front : (put : List ℕ) → put ≡ take (end - held) part → put_mid held (end - held) old put ≡ in_front whole old
  kept-front put e =
      rw e
      (ap (λ (l : List ℕ). take held old ++ (take (end - held) part ++ l)) (drop-drop (end - held) held old ∙ ap (λ (n : ℕ). drop n old) whole-long)
      ∙ sym (append_assoc (take held old) (take (end - held) part) (drop (length whole) old))
      ∙ ap (λ (l : List ℕ). l ++ drop (length whole) old) (sym whole-is))
