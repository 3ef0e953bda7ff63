-- The queue of bits with a quintet more.
use Prim.Native.Nat.{ℕ, ◌+◌, ◌*◌, ◌^◌, ◌≤◌, ◌<◌}
use lib.Arith.{digits_lt}
use lib.Pow.{pow-add, pow_mono}
use native.Mathlib.Omega.{arith}

-- a queue's value is small, and fits with a quintet more
pub longer_small : (k v : ℕ) → k ≤ 22 → v < 2 ^ k → v < 4194304
longer_small k v h g = let l : 2 ^ k ≤ 4194304 = pow_mono h in omega arith

pub longer_fits : (k v q : ℕ) → v < 2 ^ k → q < 32 → v * 32 + q < 2 ^ (k + 5)
longer_fits k v q h g = rw (pow-add 2 k 5) (digits_lt h g)
