-- The faults of the walk with the texts of their keys.
use Rattle.std.specs.Prelude.{◌≡◌, ◌⊎◌, ℕ, List, Option, Some, None, Result, Ok, Err}
use Rattle.toml.specs.Data.{Members}
use Rattle.apron_rules.specs.declared.parts.AirportParts.{AirportParts}
use Rattle.apron_rules.specs.declared.parts.TypeRow.{TypeRow}
use Rattle.airport_files.specs.declared.keys.WalkFault.{WalkFault}
use Rattle.airport_files.specs.declared.keys.WalkFault.TheVariants as walk
use Rattle.airport_files.specs.declared.layout.Layout.{Layout}
use Rattle.airport_files.specs.declared.read.FileFault.{FileFault}
use Rattle.airport_files.specs.declared.read.FileFault.TheVariants as file
use Rattle.airport_files.specs.Document.{document}
use Rattle.airport_files.specs.Walk.{layout_of}
use Rattle.airport_files.specs.Words.{key_text}

-- a fault along the keys, with the text of its key
abbrev pub file_fault : WalkFault → FileFault
file_fault (walk.Missing key) = file.MissingKey (key_text key)
file_fault (walk.Wrong key) = file.WrongKind (key_text key)
file_fault walk.Memory = file.Memory

-- the same, unless there was no memory for the text
abbrev pub IsNamed : WalkFault → FileFault → Type 0
IsNamed fault e = (e ≡ file.Memory) ⊎ (e ≡ file_fault fault)

-- what the walk reads, or its fault with the text of its key
abbrev pub named : {A : Type 0} → Result A WalkFault → Result A FileFault
named (Ok x) = Ok x
named (Err fault) = Err (file_fault fault)

-- the layout of a table, if there is one
abbrev pub layout_of_table : Option Members → Result Layout FileFault
layout_of_table None = Err file.NotToml
layout_of_table (Some ms) = named (layout_of ms)

-- the layout that the walk reads from the bytes of an airport file
unfoldable pub layout_in : List ℕ → Result Layout FileFault
layout_in airport = layout_of_table (document airport)

-- the parts of an airport with these types
abbrev pub airport_parts : Layout → List TypeRow → AirportParts
airport_parts layout types = record {
  station = layout.head.station;
  first = layout.head.first;
  days = layout.head.days;
  taxi_in = layout.head.taxi_in;
  tow = layout.head.tow;
  frontages = layout.frontages;
  stands = layout.stands;
  pairs = layout.pairs;
  types = types;
}
