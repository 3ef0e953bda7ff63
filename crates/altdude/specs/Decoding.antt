-- Decoding, symbol by symbol, with the remembered number and the value of the group that is open (pending); that value is 0 where
-- none is open, since no group of two or more begins with the digit 0.
use Rattle.std.specs.Prelude.{ℕ, ◌+◌, ◌-◌, ◌*◌, Bool, not, List, [], ◌∷◌, map, eqb, ltb}
use Rattle.std.specs.Int.Bits.{bit_xor}
use Rattle.basis.specs.Tests.{pick, both}
use Rattle.utf16.specs.Points.{is_point}
use Rattle.altdude.specs.Symbols.{symbol_of}

-- a symbol may follow: the last of a group gives a point that is not 45; a hyphen is outside a group; a value 16 to 31
-- does not begin a group with the digit 0
unfoldable pub follows : ℕ → ℕ → ℕ → Bool
follows remembered pending s =
    pick (ltb s 16) (both (is_point (bit_xor remembered (pending * 16 + s))) (not (eqb (bit_xor remembered (pending * 16 + s)) 45)))
    (pick (eqb s 45) (eqb pending 0)
    (both (ltb s 32) (not (eqb (pending * 16 + (s - 16)) 0))))

-- the remembered number after a symbol: the last of a group gives a new one
unfoldable pub next_remembered : ℕ → ℕ → ℕ → ℕ
next_remembered remembered pending s = pick (ltb s 16) (bit_xor remembered (pending * 16 + s)) remembered

-- the open group's value after a symbol
unfoldable pub next_pending : ℕ → ℕ → ℕ
next_pending pending s = pick (ltb s 16) 0 (pick (eqb s 45) 0 (pending * 16 + (s - 16)))

-- what a symbol adds to the text, before the rest: the last of a group a point, a hyphen 45, any other nothing
unfoldable pub adds : ℕ → ℕ → ℕ → List ℕ → List ℕ
adds remembered pending s rest = pick (ltb s 16) (bit_xor remembered (pending * 16 + s) ∷ rest) (pick (eqb s 45) (45 ∷ rest) rest)

-- every symbol may follow, and no group is open at the end
unfoldable pub is_readable : ℕ → ℕ → List ℕ → Bool
is_readable remembered pending [] = eqb pending 0
is_readable remembered pending (s ∷ l) = both (follows remembered pending s) (is_readable (next_remembered remembered pending s) (next_pending pending s) l)

-- the text of a row of symbols
unfoldable pub text_from : ℕ → ℕ → List ℕ → List ℕ
text_from remembered pending [] = []
text_from remembered pending (s ∷ l) = adds remembered pending s (text_from (next_remembered remembered pending s) (next_pending pending s) l)

-- the text of a label
unfoldable pub text_of : List ℕ → List ℕ
text_of l = text_from 96 0 (map symbol_of l)
