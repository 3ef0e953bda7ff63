-- Marks in a label: the last character of a group is a capital exactly when its point is marked.
use Rattle.std.specs.Prelude.{ℕ, Bool, ◌||◌, List, [], ◌∷◌, map, eqb, ltb, drop}
use Rattle.basis.specs.Tests.{pick, both}
use Rattle.basis.specs.Rows.{at}
use Rattle.ascii.specs.Case.{is_capital, small, capital}
use Rattle.alphabet.specs.Alphabet.{altdude, value_of}

-- the byte ends an item: a hyphen, or the last character of a group, whose value is 0 to 15
unfoldable pub ends_item : ℕ → Bool
ends_item byte = eqb byte 45 || ltb (value_of altdude byte) 16

-- how many items a byte ends
unfoldable pub items_ended : ℕ → ℕ
items_ended byte = pick {A = ℕ} (ends_item byte) 1 0

-- a byte with the mark of its item: the last byte is a capital if the mark is 1
unfoldable pub marked_byte : (mark byte : ℕ) → ℕ
marked_byte mark byte = pick (both (ends_item byte) (eqb mark 1)) (capital byte) byte

-- a label with marks, one for each item; a mark that is not there is 0
unfoldable pub marked : (marks label : List ℕ) → List ℕ
marked marks [] = []
marked marks (byte ∷ l) = marked_byte (at marks 0) byte ∷ marked (drop (items_ended byte) marks) l

-- the mark that a byte shows, before the rest: the last byte of an item 1 if it is a capital, else 0; any other none
unfoldable pub shows_mark : ℕ → List ℕ → List ℕ
shows_mark byte rest = pick (ends_item byte) (pick {A = ℕ} (is_capital byte) 1 0 ∷ rest) rest

-- the marks of a label
unfoldable pub marks_of : List ℕ → List ℕ
marks_of [] = []
marks_of (byte ∷ l) = shows_mark byte (marks_of l)

-- a label with every character made small but the last of each group
unfoldable pub small_but_last : List ℕ → List ℕ
small_but_last l = map (λ byte. pick (ends_item byte) byte (small byte)) l
