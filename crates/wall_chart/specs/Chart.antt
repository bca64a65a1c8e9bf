-- The wall chart of a day.
use Rattle.std.specs.Prelude.{◌++◌, ℕ, List, codes, decimal, length}
use Rattle.std.specs.List.{flat_map}
use Rattle.apron_base.specs.declared.slot.Slot.{Slot}
use Rattle.apron_rules.specs.declared.parts.AirportParts.{AirportParts}
use Rattle.apron_rules.specs.Neighbours.{first_stands}
use Rattle.visit_book.specs.Slots.{slots_of}
use Rattle.plan_core.specs.PlanState.{PlanState}
use Rattle.wall_chart.specs.Alarms.{alarm_line, alarms}
use Rattle.wall_chart.specs.Cells.{stand_line}
use Rattle.wall_chart.specs.Parts.{part_line, parts_of_day}
use Rattle.wall_chart.specs.Times.{plan_date_text}
use Rattle.wall_chart.specs.Unplaced.{unplaced_line, unplaced_on}

-- STAND CHART STATION DATE
abbrev pub title_text : AirportParts → ℕ → List ℕ
title_text airport day =
    codes "STAND CHART " ++ airport.station ++ codes " " ++ plan_date_text airport day

-- the title, and VERSION N
abbrev pub chart_first_line : AirportParts → ℕ → ℕ → List ℕ
chart_first_line airport version day =
    title_text airport day ++ codes " VERSION " ++ decimal version ++ codes "\n"

-- a line for each stand, in order
abbrev pub stand_lines : AirportParts → List Slot → ℕ → List ℕ
stand_lines airport slots day =
    flat_map (stand_line airport slots day) (first_stands (length airport.stands))

-- a line for each part that holds its stand on the day
abbrev pub part_lines : AirportParts → PlanState → ℕ → List ℕ
part_lines airport plan day =
    codes "PARTS\n" ++ flat_map (part_line airport plan.visits) (parts_of_day plan day)

-- a line for each part that waits for a stand on the day
abbrev pub unplaced_lines : AirportParts → PlanState → ℕ → List ℕ
unplaced_lines airport plan day =
    codes "UNPLACED\n" ++ flat_map (unplaced_line airport plan.visits) (unplaced_on plan day)

-- a line for each two actual parts that clash on the day
abbrev pub alarm_lines : AirportParts → List Slot → ℕ → List ℕ
alarm_lines airport slots day = codes "ALARMS\n" ++ flat_map alarm_line (alarms airport day slots)

-- the chart of a day of the plan
unfoldable pub chart_text : AirportParts → PlanState → ℕ → List ℕ
chart_text airport plan day =
    chart_first_line airport plan.version day
    ++ stand_lines airport (slots_of airport plan.visits) day
    ++ part_lines airport plan day
    ++ unplaced_lines airport plan day
    ++ alarm_lines airport (slots_of airport plan.visits) day
    ++ codes "END\n"
