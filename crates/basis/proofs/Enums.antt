-- A law on declared enums whose variants have no fields: two values with the same place among the
-- variants are equal.
use mathlib.Core.Path.{◌≡◌, refl, ap}
use mathlib.Core.Logic.{inl, inr}
use mathlib.Core.List.{List, [], ◌∷◌}
use denote.RattleType.{RattleType}
use denote.Enum.Enum.{Sum, tag}
use denote.Enum.Declared.{Declared, variants, tag_of}
use native.Mathlib.Omega.{arith}

-- no variant has a field
abbrev pub Bare : List (List RattleType) → Type 0
Bare [] = Unit {0}
Bare ([] ∷ Tss) = Bare Tss
Bare ((T ∷ Ts) ∷ Tss) = ⊥

tag-tells : (Tss : List (List RattleType)) → Bare Tss → (x y : Sum Tss) → tag Tss x ≡ tag Tss y → x ≡ y
tag-tells [] bare x y e = absurd x
tag-tells ([] ∷ Tss) bare (inl x) (inl y) e = refl
tag-tells ([] ∷ Tss) bare (inl x) (inr y) e = absurd (omega arith)
tag-tells ([] ∷ Tss) bare (inr x) (inl y) e = absurd (omega arith)
tag-tells ([] ∷ Tss) bare (inr x) (inr y) e = ap inr (tag-tells Tss bare x y (omega arith))
tag-tells ((T ∷ Ts) ∷ Tss) bare x y e = absurd bare

pub place-tells : (T : Declared) → Bare (variants T) → (x y : T.D) → tag_of T x ≡ tag_of T y → x ≡ y
place-tells T bare x y e = T.to_one x y (tag-tells (variants T) bare (T.to x) (T.to y) e)
