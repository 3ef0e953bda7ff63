-- What the private functions compute on the way; no public promise cites it.
use Rattle.std.specs.Prelude.{ℕ, zero, suc, ◌+◌, ◌/◌, ◌%◌, Bool, Option, Some, List, [], ◌∷◌, ◌++◌, eqb, ltb, length}
use Rattle.std.specs.Option.{option_eq}
use Rattle.basis.specs.Tests.{pick}
use Rattle.basis.specs.Outcome.{Outcome, done, refused_if}
use Rattle.base32.specs.Base32.{quintet_count}
use Rattle.lace_encoding.specs.Encoding.{octets_of}

-- how many units at the front have this high octet
unfoldable pub same_high : ℕ → List ℕ → ℕ
same_high high [] = zero
same_high high (u ∷ us) = pick (eqb (u / 256) high) (suc (same_high high us)) zero

-- a unit of this high octet continues the run of the unit before, if there was one
abbrev pub continues : Option ℕ → ℕ → Bool
continues before high = option_eq eqb before (Some high)

-- the octets that the first unit adds to runs, after a unit of the high octet before, if there was one
unfoldable pub run_step : Option ℕ → List ℕ → List ℕ
run_step before [] = []
run_step before (u ∷ us) = pick (continues before (u / 256)) (u % 256 ∷ []) (suc (same_high (u / 256) us) ∷ u / 256 ∷ u % 256 ∷ [])

-- the octets of the runs, unit by unit
unfoldable pub run_steps : Option ℕ → List ℕ → List ℕ
run_steps before [] = []
run_steps before (u ∷ us) = run_step before (u ∷ us) ++ run_steps (Some (u / 256)) us

-- what is answered for units that may be written
unfoldable pub units_outcome : List ℕ → Outcome
units_outcome us = refused_if (ltb 63 (4 + quintet_count (length (octets_of us)))) 3 0 (done (4 + quintet_count (length (octets_of us))))
