-- What a function answers, in the paper's numbers, and what it leaves in the buffer.
use Rattle.std.specs.Prelude.{ℕ, Bool, true, false, List, ◌++◌, drop, Result, Ok, Err}
use Rattle.basis.specs.declared.ErrorCode.{ErrorCode}
use Rattle.basis.specs.declared.ErrorCode.TheVariants.{Capacity, Empty, TooLong, NotAPoint, EdgeHyphen, HostLabel, OutsideAlphabet, NoPrefix, NotWellFormed, UnpairedSurrogate, UnknownScheme, OddByteCount, Truncated, Malformed, BadMark, AmbiguousPart}
use Rattle.basis.specs.declared.Refusal.{Refusal}
use Rattle.basis.specs.declared.ByteCount.{ByteCount}

-- the number of each cause of refusal
abbrev pub number_of : ErrorCode → ℕ
number_of Capacity = 1
number_of Empty = 2
number_of TooLong = 3
number_of NotAPoint = 4
number_of EdgeHyphen = 5
number_of HostLabel = 6
number_of OutsideAlphabet = 7
number_of NoPrefix = 8
number_of NotWellFormed = 9
number_of UnpairedSurrogate = 10
number_of UnknownScheme = 11
number_of OddByteCount = 12
number_of Truncated = 13
number_of Malformed = 14
number_of BadMark = 15
number_of AmbiguousPart = 16

-- a function is done, with a count, or refuses, with the error's number and position
pub data Outcome : Type 0 where
  done : ℕ → Outcome
  refused : ℕ → ℕ → Outcome

-- the count of an outcome; a refusal's is 0
unfoldable pub count_of : Outcome → ℕ
count_of (done count) = count
count_of (refused number position) = 0

-- what an answer says: done, with what its value counts, or refused, with the error's number and position
unfoldable pub outcome_by : {T : Type 0} (count : T → ℕ) → Result T Refusal → Outcome
outcome_by count (Ok value) = done (count value)
outcome_by count (Err refusal) = refused (number_of refusal.code) refusal.position

-- what an answer in bytes says
abbrev pub bytes_outcome : Result ByteCount Refusal → Outcome
bytes_outcome answer = outcome_by (λ count. count.0) answer

-- refused if the cause holds, else as what follows says: nested, these give the order of the refusals
unfoldable pub refused_if : Bool → ℕ → ℕ → Outcome → Outcome
refused_if true number position next = refused number position
refused_if false number position next = next

-- what follows if the outcome is done; if it is refused, the same refusal, at the position that `place` gives for its own
unfoldable pub and_then : (place : ℕ → ℕ) → Outcome → Outcome → Outcome
and_then place (done count) next = next
and_then place (refused number position) next = refused number (place position)

-- the buffer afterwards: the values, and from the count on what it held; after a refusal all that it held
unfoldable pub buffer_after : Outcome → List ℕ → List ℕ → List ℕ
buffer_after (done count) values buffer = values ++ drop count buffer
buffer_after (refused number position) values buffer = buffer
