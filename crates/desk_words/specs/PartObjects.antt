-- Parts of visits, stands and types, as replies give them.
use Rattle.std.specs.Prelude.{ℕ, Option, codes}
use Rattle.std.specs.Option.{option_map_or}
use Rattle.serde_json.specs.Data.{Data, null, number, unsigned, string, object, member, no_members}
use Rattle.apron_base.specs.declared.numbers.PartId.{PartId}
use Rattle.apron_base.specs.declared.numbers.StandNo.{StandNo}
use Rattle.apron_base.specs.declared.numbers.TypeNo.{TypeNo}
use Rattle.apron_rules.specs.declared.parts.AirportParts.{AirportParts}
use Rattle.apron_rules.specs.Rules.{stand_at, type_at}

-- a whole number
abbrev pub whole : ℕ → Data
whole value = number (unsigned value)

-- {"part":P,"visit":N}
abbrev pub part_data : PartId → Data
part_data part =
    object (member (codes "part") (whole part.part)
    (member (codes "visit") (whole part.visit.0) no_members))

-- what is said of a value, or null if there is none
abbrev pub or_null : {T : Type 0} → (T → Data) → Option T → Data
or_null said value = option_map_or said value null

-- the name of a stand
abbrev pub stand_data : AirportParts → StandNo → Data
stand_data airport stand = or_null (λ row. string row.name) (stand_at airport stand)

-- the name of a type
abbrev pub type_data : AirportParts → TypeNo → Data
type_data airport kind = or_null (λ row. string row.name) (type_at airport kind)
