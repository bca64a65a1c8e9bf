-- Which causes of failures are said.
use Rattle.std.specs.Prelude.{◌||◌, if◌then◌else◌, ℤ, pos, Bool, true, false, Option, Some, None, Result, Ok, Err}
use Rattle.std.specs.Option.{unwrap_or}
use Rattle.std.specs.Ordering.{int_eq}
use Rattle.std.specs.declared.io.Error.{Error}
use Rattle.std.specs.declared.io.ErrorKind.{ErrorKind}
use Rattle.std.specs.declared.io.ErrorKind.TheVariants.{Interrupted}
use Rattle.std.specs.IoError.{error_kind, raw_os_error}

-- a signal came meanwhile
abbrev pub is_signal : ErrorKind → Bool
is_signal Interrupted = true
is_signal _ = false

-- the system's number of a cause; 0 if it is not the system's
abbrev pub number_of : Error → ℤ
number_of cause = unwrap_or (raw_os_error cause) (pos 0)

-- this cause was the last to be said
abbrev pub is_said : Option ℤ → ℤ → Bool
is_said None number = false
is_said (Some last) number = int_eq last number

-- what is said of a call: why it failed, unless that was the last cause to be said, or a signal
-- came meanwhile
abbrev pub news : {A : Type 0} → Option ℤ → Result A Error → Option Error
news said (Ok _) = None
news said (Err cause) =
    if is_signal (error_kind cause) || is_said said (number_of cause) then None else Some cause

-- the last cause to be said after a call: none after one that succeeded
abbrev pub said_after : {A : Type 0} → Option ℤ → Result A Error → Option ℤ
said_after said (Ok _) = None
said_after said (Err cause) =
    if is_signal (error_kind cause) then said else Some (number_of cause)
