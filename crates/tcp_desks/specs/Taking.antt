-- Which failures of an accept are tried again, and how a row of them ends.
use Rattle.std.specs.Prelude.{◌≡◌, ◌==◌, ◌||◌, ◌++◌, if◌then◌else◌, ℕ, ℤ, pos, negsuc, Bool, true, false, List, [], ◌∷◌, Option, Some, None, IfSome, Result, IsOk, IsErrAnd, MatchResult, is_none}
use Rattle.std.specs.declared.io.ErrorKind.{ErrorKind}
use Rattle.std.specs.declared.io.ErrorKind.TheVariants.{Interrupted}
use Rattle.std.specs.declared.io.Error.{Error}
use Rattle.std.specs.IoError.{error_kind, raw_os_error}

-- the numbers of Linux for a lack of memory or descriptors: ENOMEM, ENFILE, EMFILE and ENOBUFS
abbrev pub is_want : ℕ → Bool
is_want number = number == 12 || number == 23 || number == 24 || number == 105

-- the numbers for a connection that its peer or its network cut before it was accepted, as
-- accept(2) lists them: ECONNABORTED, ENONET, EPROTO, ENOPROTOOPT, EOPNOTSUPP, ENETDOWN,
-- ENETUNREACH, EHOSTDOWN and EHOSTUNREACH
abbrev pub is_cut : ℕ → Bool
is_cut number =
    number == 103 || number == 64 || number == 71 || number == 92 || number == 95
    || number == 100 || number == 101 || number == 112 || number == 113

-- a failure of this number passes
abbrev pub is_passing : Option ℤ → Bool
is_passing None = false
is_passing (Some (negsuc _)) = false
is_passing (Some (pos number)) = is_want number || is_cut number

-- a signal came meanwhile
abbrev pub is_signal : ErrorKind → Bool
is_signal Interrupted = true
is_signal _ = false

-- after this failure it is tried again
abbrev pub is_tried_again : Error → Bool
is_tried_again cause = is_signal (error_kind cause) || is_passing (raw_os_error cause)

-- the first of these failures after which it is not tried again
abbrev pub first_lasting : List Error → Option Error
first_lasting [] = None
first_lasting (cause ∷ causes) = if is_tried_again cause then first_lasting causes else Some cause

-- with these failures to come a doorway gives the first of them, or a connection if there is none
abbrev pub GivesConnection : {Ends : Type 0} → List Error → Option (List Error) → Result Ends Error
    → Type 0
GivesConnection [] after result = IsOk result
GivesConnection (cause ∷ causes) after result = IsErrAnd result (λ failure. failure ≡ cause)
    × (after ≡ Some causes)

-- with these failures to come, taking ends at the first lasting one, or with a connection if
-- there is none
abbrev pub EndsTaking : {Ends : Type 0} → List Error → Result Ends Error → Type 0
EndsTaking causes result =
    MatchResult result (λ _. first_lasting causes ≡ None)
    (λ cause. first_lasting causes ≡ Some cause)

-- what is reported: that no connection can be taken, for which cause, and that one was taken again
pub data Notice : Type 0 where
  Waits : Error → Notice
  TakenAgain : Notice

-- these notices were added to those before, if they are exposed
abbrev pub IsReported : Option (List Notice) → Option (List Notice) → List Notice → Type 0
IsReported before after notices = IfSome before (λ said. after ≡ Some (said ++ notices))

-- the notice at the end of a row of which these failures are left
abbrev pub end_of_row : List Error → List Notice
end_of_row causes = if is_none (first_lasting causes) then TakenAgain ∷ [] else []

-- the notices of these failures: of the first that passes, and of the end of its row if a
-- connection comes then
abbrev pub notices : List Error → List Notice
notices [] = []
notices (cause ∷ causes) =
    if is_signal (error_kind cause) then notices causes
    else if is_passing (raw_os_error cause) then Waits cause ∷ end_of_row causes
    else []
