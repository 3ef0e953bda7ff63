-- Bytes that were counted, within a buffer.
use Rattle.std.proofs.Common.{◌≡◌, ℕ, ◌≤◌, List, length, sym, Option, Some, Result, Ok}
use lib.Seq.{length-take-le}
use Rattle.streams.specs.Reading.{IsPrefixLen, ReadFits}
use Rattle.streams.specs.declared.ReadFailed.{ReadFailed}

pub counts : (n : ℕ) (l : List ℕ) → n ≤ length l → IsPrefixLen n l
counts n l h = (h, sym (length-take-le n l h))

pub got-some : (room : ℕ) (answer : Result (Option ℕ) ReadFailed) (n : ℕ) → ReadFits room answer → answer ≡ Ok (Some n) → (1 ≤ n) × (n ≤ room)
got-some room answer n f g = rw g at f
