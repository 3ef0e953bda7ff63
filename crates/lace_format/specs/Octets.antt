-- Runs (the paper's stretches) of units with equal high octet.
use Rattle.std.specs.Prelude.{ℕ, suc, ◌+◌, ◌*◌, ◌/◌, List, [], ◌∷◌, ◌++◌, map, eqb}
use Rattle.basis.specs.Tests.{pick}

-- the unit of a high and a low octet
abbrev pub unit_of : ℕ → ℕ → ℕ
unit_of high low = high * 256 + low

-- a run: its high octet and its low octets
pub data Run : Type 0 where
  run : ℕ → List ℕ → Run

-- the units of a row of runs
unfoldable pub run_units : List Run → List ℕ
run_units [] = []
run_units (run high lows ∷ runs) = map (unit_of high) lows ++ run_units runs

-- 1 where two neighbours differ in high octet, else 0
unfoldable pub change_between : ℕ → ℕ → ℕ
change_between before u = pick (eqb (before / 256) (u / 256)) 0 1

-- how many neighbours, from the unit before on, differ in high octet
unfoldable pub changes : ℕ → List ℕ → ℕ
changes before [] = 0
changes before (u ∷ us) = change_between before u + changes u us

-- how many longest runs a row of units has: one more than its neighbours that differ in high octet
unfoldable pub run_count : List ℕ → ℕ
run_count [] = 0
run_count (u ∷ us) = suc (changes u us)
