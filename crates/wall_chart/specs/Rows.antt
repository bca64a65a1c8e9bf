-- What stands, types, parts and rules are called on a chart.
use Rattle.std.specs.Prelude.{◌-◌, ◌++◌, [], ℕ, List, Option, None, Some, codes, decimal, length, option_and_then, option_map, replicate}
use Rattle.apron_base.specs.declared.numbers.PartId.{PartId}
use Rattle.apron_base.specs.declared.numbers.StandNo.{StandNo}
use Rattle.apron_base.specs.declared.numbers.VisitNo.{VisitNo}
use Rattle.apron_rules.specs.declared.parts.AirportParts.{AirportParts}
use Rattle.apron_rules.specs.Rules.{stand_at, type_at}
use Rattle.visit_book.specs.declared.visits.Visit.{Visit}
use Rattle.visit_book.specs.Numbers.{visit_at}
use Rattle.visit_book.specs.declared.visits.PartRow.{PartRow}
use Rattle.wall_chart.specs.Times.{span_text}

-- how many places a stand's name takes
abbrev pub name_places : ℕ
name_places = 6

-- the name with spaces after it, up to this many places
abbrev pub filled_up : List ℕ → List ℕ
filled_up name = name ++ replicate (name_places - length name) 32

-- the name, or nothing if there is none
abbrev pub name_or_none : Option (List ℕ) → List ℕ
name_or_none None = []
name_or_none (Some name) = name

-- the name of a stand, filled up
abbrev pub stand_text : AirportParts → StandNo → List ℕ
stand_text airport stand =
    filled_up (name_or_none (option_map (λ row. row.name) (stand_at airport stand)))

-- the name of the type of the visit of this number
abbrev pub type_text : AirportParts → List Visit → VisitNo → List ℕ
type_text airport visits number =
    name_or_none (option_map (λ row. row.name)
    (option_and_then (λ visit. type_at airport visit.kind) (visit_at visits number)))

-- VISIT.PART
abbrev pub part_text : PartId → List ℕ
part_text part = decimal part.visit.0 ++ codes "." ++ decimal part.part

-- PART TYPE FROM-TO
abbrev pub row_text : AirportParts → List Visit → PartRow → List ℕ
row_text airport visits row =
    part_text row.id ++ codes " " ++ type_text airport visits row.id.visit ++ codes " "
    ++ span_text row.part.from row.part.to
