-- What the private functions compute on the way; no public promise cites it.
use Rattle.std.specs.Prelude.{ℕ, List, [], ◌∷◌, eqb, ltb}
use Rattle.basis.specs.Tests.{pick}
use Rattle.host_name.specs.Parts.{dot}

-- so many bytes, counted up to 254
unfoldable pub capped : ℕ → ℕ
capped count = pick (ltb 253 count) 254 count

-- the dot before the part of this index; the first has none
abbrev pub dot_before : ℕ → List ℕ
dot_before index = pick (eqb index 0) [] (dot ∷ [])
