-- The lines of the parts that hold a stand on a day.
use Rattle.std.specs.Prelude.{◌++◌, ◌∷◌, [], ℕ, Bool, List, Option, None, Some, codes, if◌then◌else◌}
use Rattle.apron_base.specs.declared.numbers.StandNo.{StandNo}
use Rattle.apron_rules.specs.declared.parts.AirportParts.{AirportParts}
use Rattle.visit_book.specs.declared.visits.Visit.{Visit}
use Rattle.visit_book.specs.Places.{is_actual, stand_of}
use Rattle.plan_core.specs.PlanState.{PlanState}
use Rattle.visit_book.specs.declared.visits.PartRow.{PartRow}
use Rattle.plan_lists.specs.Held.{held_on}
use Rattle.wall_chart.specs.Order.{in_order}
use Rattle.wall_chart.specs.Rows.{row_text, stand_text}

-- the number of a stand
abbrev pub stand_number : Option StandNo → ℕ
stand_number None = 0
stand_number (Some stand) = stand.0

-- what orders the parts: the stand, the first minute, the visit and the part
abbrev pub part_order : PartRow → List ℕ
part_order row =
    stand_number (stand_of row.part.place) ∷ row.part.from ∷ row.id.visit.0 ∷ row.id.part ∷ []

-- the name of a part's stand, filled up
abbrev pub place_text : AirportParts → Option StandNo → List ℕ
place_text airport None = []
place_text airport (Some stand) = stand_text airport stand

-- how a part is there, in fact or by the plan
abbrev pub fact_text : Bool → List ℕ
fact_text actual = if actual then codes "actual" else codes "planned"

-- STAND PART TYPE FROM-TO, and whether it is there in fact
abbrev pub part_line : AirportParts → List Visit → PartRow → List ℕ
part_line airport visits row =
    place_text airport (stand_of row.part.place) ++ codes " " ++ row_text airport visits row
    ++ codes " " ++ fact_text (is_actual row.part.place) ++ codes "\n"

-- the parts that hold their stand at a minute of the day, in order of stand, first minute, visit
-- and part
abbrev pub parts_of_day : PlanState → ℕ → List PartRow
parts_of_day plan day = in_order part_order (held_on plan day)
