-- What an airport file and a type file mean together: the parts of an airport, or the first fault.
use Rattle.std.specs.Prelude.{◌≡◌, ◌⊎◌, ℕ, List, ok_or, Result, Ok, Err}
use Rattle.std.specs.Option.{option_map_or}
use Rattle.std.specs.Result.{result_map_both}
use Rattle.apron_base.specs.ResultChain.{◌>>=◌}
use Rattle.csv_records.specs.Tables.{table_in}
use Rattle.apron_rules.specs.declared.parts.AirportParts.{AirportParts}
use Rattle.apron_rules.specs.declared.parts.TypeRow.{TypeRow}
use Rattle.apron_rules.specs.Refusals.{airport_fault}
use Rattle.airport_files.specs.declared.read.FileFault.{FileFault}
use Rattle.airport_files.specs.declared.read.FileFault.TheVariants as file
use Rattle.airport_files.specs.Document.{document}
use Rattle.airport_files.specs.Rows.{parts_of}
use Rattle.airport_files.specs.Types.{types_after}

-- what was read is what the texts mean, unless memory ran out
abbrev pub Means : {A : Type 0} → Result A FileFault → Result A FileFault → Type 0
Means (Ok x) meant = meant ≡ Ok x
Means (Err e) meant = (e ≡ file.Memory) ⊎ (meant ≡ Err e)

-- what the type file says: its types, or its first bad record
unfoldable pub types_in : List ℕ → Result (List TypeRow) FileFault
types_in types = result_map_both (λ rows. rows) file.BadRow (table_in types_after types)

-- the airport of these parts, unless they are refused
unfoldable pub airport_of_parts : AirportParts → Result AirportParts FileFault
airport_of_parts parts =
    option_map_or (λ fault. Err (file.Airport fault)) (airport_fault parts) (Ok parts)

-- the two files together: first the airport file, then the type file, then the airport that they
-- make
unfoldable pub meaning : List ℕ → List ℕ → Result AirportParts FileFault
meaning airport types = do
  table ← ok_or (document airport) file.NotToml
  parts ← parts_of table
  rows ← types_in types
  airport_of_parts (parts rows)
