-- The airport that two files on a shelf make.
use Rattle.std.specs.Prelude.{◌≡◌, ◌<◌, ◌≤◌, ◌+◌, ℕ, Bool, true, false, List, length, Option, IfSome, MatchOption, Result, Ok, Err}
use Rattle.apron_base.specs.Counts.{Counts, RoseBy}
use Rattle.apron_base.specs.Shelf.{ShelfState}
use Rattle.apron_rules.specs.declared.parts.AirportParts.{AirportParts}
use Rattle.airport_files.specs.declared.read.FileFault.{FileFault}
use Rattle.airport_files.specs.Meaning.{meaning}
use Rattle.apron_check.specs.Digests.{digests_of}
use Rattle.apron_check.specs.declared.files.AirportFiles.{AirportFiles}
use Rattle.apron_check.specs.declared.faults.FilesFault.{FilesFault}
use Rattle.apron_check.specs.declared.faults.FilesFault.TheVariants.{Faulty, AirportTooLong, TypesTooLong, ShelfFault, Memory}

-- the most bytes of a file
abbrev pub max_file : ℕ
max_file = 1048576

-- these are the bytes of a file that isn't too long, if the shelf exposes it
pub record AreOfFile (file : Option (List ℕ)) (bytes : List ℕ) : Type 0 where
  pub told : IfSome file (λ kept. bytes ≡ kept)
  pub short : length bytes ≤ max_file

-- two files that aren't too long make this airport together, and these are their digests
pub record Make (airport types : Option (List ℕ)) (made : AirportFiles) : Type 0 where
  pub airport_bytes : List ℕ
  pub types_bytes : List ℕ
  pub of_airport : AreOfFile airport airport_bytes
  pub of_types : AreOfFile types types_bytes
  pub airport_is : meaning airport_bytes types_bytes ≡ Ok made.airport
  pub digests_are : made.digests ≡ digests_of airport_bytes types_bytes

-- two files that aren't too long mean this together
pub record Mean (airport types : Option (List ℕ))
    (meant : Result AirportParts FileFault) : Type 0 where
  pub airport_bytes : List ℕ
  pub types_bytes : List ℕ
  pub of_airport : AreOfFile airport airport_bytes
  pub of_types : AreOfFile types types_bytes
  pub meant_is : meaning airport_bytes types_bytes ≡ meant

-- a file has more than the most bytes; if the shelf doesn't expose it, more were read
abbrev pub IsFileTooLong : Option (List ℕ) → ShelfState → ShelfState → Type 0
IsFileTooLong file before after =
    MatchOption file (RoseBy (max_file + 1) before.read after.read) (λ kept. max_file < length kept)

-- why an airport, or a fault in its place, is found in the files of two names: each result except a
-- lack of memory has its cause, and the cause of a failing shelf is its count
abbrev pub HasFilesCause : ShelfState → ShelfState → List ℕ → List ℕ
    → Result AirportFiles FilesFault → Type 0
HasFilesCause before after airport types (Ok made) =
    Make (before.file airport) (before.file types) made
HasFilesCause before after airport types (Err (Faulty fault)) =
    Mean (before.file airport) (before.file types) (Err fault)
HasFilesCause before after airport types (Err AirportTooLong) =
    IsFileTooLong (before.file airport) before after
HasFilesCause before after airport types (Err TypesTooLong) =
    ((bytes : List ℕ) × AreOfFile (before.file airport) bytes)
    × IsFileTooLong (before.file types) before after
HasFilesCause before after airport types (Err ShelfFault) = Unit {0}
HasFilesCause before after airport types (Err Memory) = Unit {0}

-- the shelf failed
abbrev pub is_files_shelf_fault : Result AirportFiles FilesFault → Bool
is_files_shelf_fault (Err ShelfFault) = true
is_files_shelf_fault found = false

-- what is found in the files of two names, and what that does to the shelf: its files stay, and it
-- fails only if that is reported
pub record FindsFiles (before after : ShelfState) (airport types : List ℕ)
    (found : Result AirportFiles FilesFault) : Type 0 where
  pub cause : HasFilesCause before after airport types found
  pub counts : Counts (is_files_shelf_fault found) before.faults after.faults
  pub more : before.read ≤ after.read
  pub kept : (name : List ℕ) → after.file name ≡ before.file name
