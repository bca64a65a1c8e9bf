-- What an airport file says: its tables with their keys, in the order in which they are read.
use Rattle.std.specs.Prelude.{ℕ, List, [], codes, Result, Ok}
use Rattle.apron_base.specs.ResultChain.{◌>>=◌}
use Rattle.toml.specs.Data.{Members, as_table}
use Rattle.apron_rules.specs.declared.parts.AirportParts.{AirportParts}
use Rattle.apron_rules.specs.declared.parts.Frontage.{Frontage}
use Rattle.apron_rules.specs.declared.parts.PairRow.{PairRow}
use Rattle.apron_rules.specs.declared.parts.StandRow.{StandRow}
use Rattle.apron_rules.specs.declared.parts.TypeRow.{TypeRow}
use Rattle.airport_files.specs.declared.read.FileFault.{FileFault}
use Rattle.airport_files.specs.Forms.{array_of, date_of, letter_of, name_of, station_of, toml_number}
use Rattle.airport_files.specs.Keys.{needed, optional, rows_at}

-- what the table of a frontage says
unfoldable pub frontage_at : List ℕ → Members → Result Frontage FileFault
frontage_at start table = do
  name ← needed name_of start table (codes "name")
  objects ← needed (array_of toml_number) start table (codes "objects")
  Ok (record { name = name; objects = objects })

-- what the table of a stand says
unfoldable pub stand_at : List ℕ → Members → Result StandRow FileFault
stand_at start table = do
  name ← needed name_of start table (codes "name")
  frontage ← needed name_of start table (codes "frontage")
  centre ← needed toml_number start table (codes "centre")
  letter ← needed letter_of start table (codes "letter")
  buffer ← needed toml_number start table (codes "buffer")
  half ← optional name_of start table (codes "half_of")
  Ok (record {
    name = name;
    frontage = frontage;
    centre = centre;
    letter = letter;
    buffer = buffer;
    half_of = half;
  })

-- what the table of a pair restriction says
unfoldable pub pair_at : List ℕ → Members → Result PairRow FileFault
pair_at start table = do
  a ← needed name_of start table (codes "a")
  la ← needed letter_of start table (codes "la")
  b ← needed name_of start table (codes "b")
  lb ← needed letter_of start table (codes "lb")
  Ok (record { a = a; la = la; b = b; lb = lb })

-- what an airport file says: the parts of an airport, once its types are known
unfoldable pub parts_of : Members → Result (List TypeRow → AirportParts) FileFault
parts_of file = do
  airport ← needed as_table [] file (codes "airport")
  station ← needed station_of (codes "airport.") airport (codes "station")
  first ← needed date_of (codes "airport.") airport (codes "first_day")
  days ← needed toml_number (codes "airport.") airport (codes "days")
  taxi_in ← needed toml_number (codes "airport.") airport (codes "taxi_in")
  tow ← needed toml_number (codes "airport.") airport (codes "tow")
  frontages ← rows_at frontage_at file (codes "frontage")
  stands ← rows_at stand_at file (codes "stand")
  pairs ← rows_at pair_at file (codes "pair")
  Ok (λ types. record {
    station = station;
    first = first;
    days = days;
    taxi_in = taxi_in;
    tow = tow;
    frontages = frontages;
    stands = stands;
    pairs = pairs;
    types = types;
  })
