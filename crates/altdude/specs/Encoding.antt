-- The AltDUDE label of a text.
use Rattle.std.specs.Prelude.{ℕ, zero, suc, ◌+◌, ◌/◌, ◌%◌, List, [], ◌∷◌, map, eqb}
use Rattle.std.specs.Int.Bits.{bit_xor}
use Rattle.basis.specs.Tests.{pick}
use Rattle.altdude.specs.Symbols.{byte_of}

-- the hexadecimal digits of x, highest first and without leading zeros, each as 16 + digit, before the rest; zero has none.
-- The first argument bounds the recursion: x itself is enough
unfoldable pub leading_digits : ℕ → ℕ → List ℕ → List ℕ
leading_digits zero x rest = rest
leading_digits (suc bound) zero rest = rest
leading_digits (suc bound) (suc x) rest = leading_digits bound (suc x / 16) ((16 + suc x % 16) ∷ rest)

-- the group of x before the rest: each digit but the last as 16 + digit, the last as the digit
unfoldable pub group_of : ℕ → List ℕ → List ℕ
group_of x rest = leading_digits (x / 16) (x / 16) (x % 16 ∷ rest)

-- the item of the point p before the rest: a hyphen, or the group of p XOR the remembered number
unfoldable pub item_of : ℕ → ℕ → List ℕ → List ℕ
item_of remembered p rest = pick (eqb p 45) (45 ∷ rest) (group_of (bit_xor p remembered) rest)

-- the remembered number after the point p: a hyphen does not alter it
unfoldable pub remembered_after : ℕ → ℕ → ℕ
remembered_after remembered p = pick (eqb p 45) remembered p

-- the symbols of a text from a remembered number on
unfoldable pub symbols_from : ℕ → List ℕ → List ℕ
symbols_from remembered [] = []
symbols_from remembered (p ∷ t) = item_of remembered p (symbols_from (remembered_after remembered p) t)

-- the label of a text: the remembered number starts at 96
unfoldable pub label_of : List ℕ → List ℕ
label_of t = map byte_of (symbols_from 96 t)
