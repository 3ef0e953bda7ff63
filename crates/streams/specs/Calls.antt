-- The result of a call that opens, reads or writes, by what it answered.
use Rattle.std.specs.Prelude.{◌≡◌, ℕ, zero, suc, Option, Some, None, Result, Ok, Err}
use Rattle.std.specs.IoError.{error_kind}
use Rattle.std.specs.declared.io.Error.{Error}
use Rattle.std.specs.declared.io.ErrorKind.TheVariants.{Interrupted}
use Rattle.streams.specs.declared.ReadFailed.{ReadFailed}

-- a read: so many bytes, at 0 the end of the input, an error is a failure
abbrev pub read_answer : Result ℕ Error → Result (Option ℕ) ReadFailed
read_answer (Ok zero) = Ok None
read_answer (Ok (suc n)) = Ok (Some (suc n))
read_answer (Err error) = Err (record {})

-- a signal interrupted the call: it failed, and the error is of that kind
abbrev pub IsInterrupted : {A : Type 0} → Result A Error → Type 0
IsInterrupted (Ok x) = ⊥
IsInterrupted (Err error) = error_kind error ≡ Interrupted
