-- What a read may answer, and what is believed of bytes that were read.
use Rattle.std.specs.Prelude.{◌≡◌, ℕ, ◌<◌, ◌≤◌, List, [], length, take, Option, Some, None, Result, Ok, Err, IsOk}
use Rattle.std.specs.Io.KnownBytes.{Consumes, IsAtEnd, Keeps}
use Rattle.streams.specs.declared.Filled.{Filled}
use Rattle.streams.specs.declared.ReadFailed.{ReadFailed}

-- a read into so many bytes may answer so: one byte or more, as far as there is room; the end of the input if there was room
-- for a byte; a failure
abbrev pub ReadFits : ℕ → Result (Option ℕ) ReadFailed → Type 0
ReadFits room (Ok (Some count)) = (1 ≤ count) × (count ≤ room)
ReadFits room (Ok None) = 1 ≤ room
ReadFits room (Err failed) = Unit {0}

-- the bytes that are believed of those that were read: all if the input ended, none if a read failed
abbrev pub believed : Result (Unit {0}) ReadFailed → List ℕ → List ℕ
believed (Ok ended) bytes = bytes
believed (Err failed) bytes = []

-- so many bytes are in front of the buffer: the part of it that has them is as long
abbrev pub IsPrefixLen : ℕ → List ℕ → Type 0
IsPrefixLen count buffer = (count ≤ length buffer) × (count ≡ length (take count buffer))

-- Of a reader whose bytes are known, before the read and after it: a read took the bytes that it put in front of the buffer, and
-- no others; at the end of the input none is left; a failed read took none
abbrev pub ReadTakes : Option (List ℕ) → Option (List ℕ) → List ℕ → Result (Option ℕ) ReadFailed → Type 0
ReadTakes before after buffer (Ok (Some count)) = Consumes before after (take count buffer)
ReadTakes before after buffer (Ok None) = Keeps before after × IsAtEnd after
ReadTakes before after buffer (Err failed) = Keeps before after

-- the reads that fill a buffer took the bytes that are counted, and no others; none is left if the input ended before the
-- buffer was full
abbrev pub FillTakes : Option (List ℕ) → Option (List ℕ) → List ℕ → Filled → Type 0
FillTakes before after buffer filled = Consumes before after (take filled.count buffer) × (IsOk filled.ending → filled.count < length buffer → IsAtEnd after)
