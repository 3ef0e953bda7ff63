-- The rules of form of an AltDUDE label, sentence by sentence. Nothing here comes from encoding or decoding.
use Rattle.std.specs.Prelude.{ℕ, ◌+◌, ◌-◌, ◌*◌, ◌%◌, ◌≤◌, ◌<◌, ◌≡◌, true, List, [], ◌∷◌, ◌++◌, map, length}
use Rattle.std.specs.Int.Bits.{bit_xor}
use Rattle.basis.specs.Rows.{at}
use Rattle.utf16.specs.Points.{is_point}
use Rattle.altdude.specs.Symbols.{symbol_of, is_character}

-- an item: a hyphen, or a group of leading values and a last one
pub data Item : Type 0 where
  hyphen : Item
  group : List ℕ → ℕ → Item

-- the symbols of a row of items
unfoldable pub symbols_in : List Item → List ℕ
symbols_in [] = []
symbols_in (hyphen ∷ items) = 45 ∷ symbols_in items
symbols_in (group leading last ∷ items) = leading ++ (last ∷ symbols_in items)

-- any number of characters with values 16 to 31, then one with value 0 to 15; a group of two or more does not begin with s, whose value is 16
pub record Group (leading : List ℕ) (last : ℕ) : Type 0 where
  pub leading_high : (i : ℕ) → i < length leading → (16 ≤ at leading i) × (at leading i ≤ 31)
  pub last_low : last ≤ 15
  pub no_leading_s : at leading 0 ≡ 16 → ⊥

-- every group of the row is one
unfoldable pub Groups : List Item → Type 0
Groups [] = Unit {0}
Groups (hyphen ∷ items) = Groups items
Groups (group leading last ∷ items) = Group leading last × Groups items

-- the number whose hexadecimal digits are the values, 16 left off, after those of x
unfoldable pub digits_after : ℕ → List ℕ → ℕ
digits_after x [] = x
digits_after x (value ∷ values) = digits_after (x * 16 + value % 16) values

-- the value of a group
unfoldable pub group_value : List ℕ → ℕ → ℕ
group_value leading last = digits_after 0 leading * 16 + last

-- the running XOR over the groups' values gives, after every group, a point that is not 45
unfoldable pub RunningXor : ℕ → List Item → Type 0
RunningXor running [] = Unit {0}
RunningXor running (hyphen ∷ items) = RunningXor running items
RunningXor running (group leading last ∷ items) =
    (is_point (bit_xor running (group_value leading last)) ≡ true)
    × (bit_xor running (group_value leading last) ≡ 45 → ⊥)
    × RunningXor (bit_xor running (group_value leading last)) items

-- the symbols are a row of items, with the running XOR from 96
pub record RowOfItems (symbols : List ℕ) : Type 0 where
  pub items : List Item
  pub joined : symbols ≡ symbols_in items
  pub groups : Groups items
  pub running : RunningXor 96 items

-- the rules of form: 1 to 63 bytes, each a hyphen or one of the 32; first and last are not hyphens; a row of items
pub record WellFormed (l : List ℕ) : Type 0 where
  pub some : 1 ≤ length l
  pub short : length l ≤ 63
  pub characters : (i : ℕ) → i < length l → is_character (at l i) ≡ true
  pub first : at l 0 ≡ 45 → ⊥
  pub last : at l (length l - 1) ≡ 45 → ⊥
  pub row : RowOfItems (map symbol_of l)
