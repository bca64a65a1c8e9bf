-- The lines about two files.
use Rattle.std.specs.Prelude.{ℕ, List, [], ◌∷◌, ◌++◌, length, codes, decimal}
use Rattle.apron_rules.specs.declared.parts.AirportParts.{AirportParts}
use Rattle.apron_rules.specs.declared.refusals.Limit.{Limit}
use Rattle.apron_rules.specs.declared.refusals.Limit.TheVariants.{Days, TaxiIn, Tow, Frontages, Objects, Stands, Centre, Buffer, Pairs, Types, Least}
use Rattle.apron_rules.specs.declared.refusals.AirportFault.{AirportFault}
use Rattle.apron_rules.specs.declared.refusals.AirportFault.TheVariants as airport
use Rattle.airport_files.specs.declared.read.FileFault.{FileFault}
use Rattle.airport_files.specs.declared.read.FileFault.TheVariants as file
use Rattle.apron_check.specs.declared.faults.FilesFault.{FilesFault}
use Rattle.apron_check.specs.declared.faults.FilesFault.TheVariants as files

-- the word for a limit
abbrev pub limit_word : Limit → List ℕ
limit_word Days = codes "days"
limit_word TaxiIn = codes "taxi_in"
limit_word Tow = codes "tow"
limit_word Frontages = codes "frontages"
limit_word Objects = codes "objects"
limit_word Stands = codes "stands"
limit_word Centre = codes "centre"
limit_word Buffer = codes "buffer"
limit_word Pairs = codes "pairs"
limit_word Types = codes "types"
limit_word Least = codes "least"

-- the text for a lack of memory
abbrev pub memory_text : List ℕ
memory_text = codes "memory"

-- the text for why parts are no airport
abbrev pub airport_text : AirportFault → List ℕ
airport_text (airport.DuplicateName name) = codes "airport: duplicate " ++ name
airport_text (airport.UnknownName name) = codes "airport: unknown " ++ name
airport_text (airport.BadHalf name) = codes "airport: half " ++ name
airport_text (airport.LimitPassed limit) = codes "airport: limit " ++ limit_word limit
airport_text (airport.BadSpan name) = codes "airport: span " ++ name
airport_text (airport.BadFold name) = codes "airport: fold " ++ name
airport_text airport.Memory = memory_text

-- the text for the first fault in two files
abbrev pub file_text : FileFault → List ℕ
file_text file.NotToml = codes "airport file: not toml"
file_text (file.MissingKey key) = codes "airport file: missing " ++ key
file_text (file.WrongKind key) = codes "airport file: wrong " ++ key
file_text (file.BadRow row) = codes "type file: record " ++ decimal row
file_text (file.Airport fault) = airport_text fault
file_text file.Memory = memory_text

-- the text for why two files give no airport
abbrev pub fault_text : FilesFault → List ℕ
fault_text (files.Faulty fault) = file_text fault
fault_text files.AirportTooLong = codes "airport file: too long"
fault_text files.TypesTooLong = codes "type file: too long"
fault_text files.ShelfFault = codes "shelf fault"
fault_text files.Memory = memory_text

-- its line
abbrev pub fault_line : FilesFault → List ℕ
fault_line fault = fault_text fault ++ 10 ∷ []

-- the line with the numbers of an airport's stands, types and days
abbrev pub counts_line : AirportParts → List ℕ
counts_line parts =
    (codes "ok: " ++ decimal (length parts.stands))
    ++ (codes " stands, " ++ decimal (length parts.types))
    ++ (codes " types, " ++ decimal parts.days) ++ codes " days\n"
