-- Each entry of a written table is found at its index: its reader number, its scheme and its text.
use Prim.Native.Nat.{ℕ, zero, suc, ◌+◌, ◌<◌}
use mathlib.Core.Path.{◌≡◌, ap, ◌∙◌}
use mathlib.Core.List.{List, [], ◌∷◌}
use lib.ListN.{length, take, drop}
use lib.Seq.{drop-drop}
use native.Mathlib.Omega.{arith}
use Rattle.basis.specs.Rows.{at}
use Rattle.nametable_format.specs.Format.{entry_at}
use Rattle.nametable_write.specs.Writing.{Entry, entry, entries_of, sum_of, reader_in}
use Rattle.nametable_facts.specs.Entries.{entry_in, entries_from, Holds}

-- the first of the entries, and the others
first_of : List Entry → Entry
first_of [] = entry 0 0 []
first_of (e ∷ es) = e

others_of : List Entry → List Entry
others_of [] = []
others_of (e ∷ es) = es

-- the number of the scheme of an entry, and its text
number_in : Entry → ℕ
number_in (entry reader scheme text) = scheme

words_in : Entry → List ℕ
words_in (entry reader scheme text) = text

-- the entries of a table that are those of the rows hold them, each at its index
pub holds_at : (t : List ℕ) (index : ℕ) (readers schemes lengths points : List ℕ) → entries_from t index (length readers) ≡ entries_of readers schemes lengths points
    → (j : ℕ) → j < length readers → Holds (entry_at t (index + j)) readers schemes lengths points j
unfolding entries_from entries_of entry_in sum_of reader_in first_of others_of number_in words_in
holds_at t index [] schemes lengths points e j h = absurd (omega arith)
holds_at t index (r ∷ rs) [] lengths points e j h = absurd (omega (arith, ap length e))
holds_at t index (r ∷ rs) (s ∷ ss) [] points e j h = absurd (omega (arith, ap length e))
holds_at t index (r ∷ rs) (s ∷ ss) (n ∷ ns) points e zero h =
    let i : index + 0 ≡ index = omega arith in
    rw i (record { reader = ap (λ (es : List Entry). reader_in (first_of es)) e; scheme = ap (λ (es : List Entry). number_in (first_of es)) e; text = ap (λ (es : List Entry). words_in (first_of es)) e })
holds_at t index (r ∷ rs) (s ∷ ss) (n ∷ ns) points e (suc j) h =
    let rest = holds_at t (suc index) rs ss ns (drop n points) (ap others_of e) j (omega arith) in
    let i : index + suc j ≡ suc index + j = omega arith in
    rw i (record { reader = rest.reader; scheme = rest.scheme; text = rest.text ∙ ap (take (at ns j)) (drop-drop (sum_of (take j ns)) n points) })
