-- A byte looked up is told by its value and whether it is a capital.
use Prim.Native.Nat.{ℕ}
use mathlib.Core.Path.{◌≡◌, ap}
use mathlib.Core.List.{List}
use Rattle.ascii.specs.Case.{is_capital}
use Rattle.alphabet.specs.Alphabet.{value_of, look_up}
use Rattle.alphabet.specs.declared.Character.{Character}

module _ (alphabet : List ℕ) (byte : ℕ) where
  pub value_found : {found : Character} → found ≡ look_up alphabet byte → found.value ≡ value_of alphabet byte
  value_found e = ap (λ (c : Character). c.value) e

  pub capital-found : {found : Character} → found ≡ look_up alphabet byte → found.capital ≡ is_capital byte
  capital-found e = ap (λ (c : Character). c.capital) e
