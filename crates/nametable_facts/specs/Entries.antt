-- The entries that a table holds, and the rows that list given entries.
use Rattle.std.specs.Prelude.{ℕ, zero, suc, ◌≡◌, List, [], ◌∷◌, ◌++◌, length, take, drop}
use Rattle.basis.specs.Rows.{at}
use Rattle.scheme.specs.Naming as naming
use Rattle.nametable_format.specs.Format.{count_of, entry_at, reader_of, scheme_in}
use Rattle.nametable.specs.Answer.{text_in}
use Rattle.nametable_write.specs.Writing.{Entry, entry, sum_of}

-- an entry as it is read: its reader number, the number of its scheme, its text
unfoldable pub entry_in : List ℕ → Entry
entry_in e = entry (reader_of e) (naming.number_of (scheme_in e)) (text_in e)

-- the entries of a table from an index on, so many
unfoldable pub entries_from : List ℕ → (index left : ℕ) → List Entry
entries_from t index zero = []
entries_from t index (suc left) = entry_in (entry_at t index) ∷ entries_from t (suc index) left

-- all entries of a table, as many as its header announces
unfoldable pub entries_in : List ℕ → List Entry
entries_in t = entries_from t 0 (count_of t)

-- the rows that list the entries: the reader numbers
unfoldable pub readers_of : List Entry → List ℕ
readers_of [] = []
readers_of (entry reader scheme text ∷ es) = reader ∷ readers_of es

-- the numbers of the schemes
unfoldable pub schemes_of : List Entry → List ℕ
schemes_of [] = []
schemes_of (entry reader scheme text ∷ es) = scheme ∷ schemes_of es

-- the lengths of the texts
unfoldable pub lengths_of : List Entry → List ℕ
lengths_of [] = []
lengths_of (entry reader scheme text ∷ es) = length text ∷ lengths_of es

-- the points of all texts
unfoldable pub points_of : List Entry → List ℕ
points_of [] = []
points_of (entry reader scheme text ∷ es) = text ++ points_of es

-- the bytes of an entry hold what the rows list at an index: its reader number, its scheme, its text
pub record Holds (e readers schemes lengths points : List ℕ) (index : ℕ) : Type 0 where
  pub reader : reader_of e ≡ at readers index
  pub scheme : naming.number_of (scheme_in e) ≡ at schemes index
  pub text : text_in e ≡ take (at lengths index) (drop (sum_of (take index lengths)) points)
