-- The cells of a stand: how it is held in each quarter of an hour of a day.
use Rattle.std.specs.Prelude.{◌+◌, ◌*◌, ◌&&◌, ℕ, Bool, not, List, codes, ◌++◌, map, if◌then◌else◌}
use Rattle.std.specs.List.{list_any, range_with_len}
use Rattle.apron_base.specs.declared.numbers.StandNo.{StandNo}
use Rattle.apron_base.specs.declared.slot.Slot.{Slot}
use Rattle.apron_rules.specs.declared.parts.AirportParts.{AirportParts}
use Rattle.apron_rules.specs.Clash.{is_held}
use Rattle.plan_core.specs.PlanState.{is_on}
use Rattle.plan_lists.specs.Days.{day_start, minutes_from}
use Rattle.wall_chart.specs.Rows.{stand_text}

-- the minutes of a cell
abbrev pub cell_length : ℕ
cell_length = 15

-- the cells of a day
abbrev pub cells_of_day : ℕ
cells_of_day = 96

-- the minutes of a quarter of an hour of the day, the first of which is quarter 0
abbrev pub quarter_minutes : ℕ → ℕ → List ℕ
quarter_minutes day quarter = minutes_from (day_start day + cell_length * quarter) cell_length

-- the slot is held at some of these minutes
abbrev pub is_held_at_some : List ℕ → Slot → Bool
is_held_at_some minutes slot = list_any (is_held slot) minutes

-- an actual part holds the stand at some of these minutes
abbrev pub holds_in_fact : StandNo → List ℕ → Slot → Bool
holds_in_fact stand minutes slot = is_on stand slot && slot.actual && is_held_at_some minutes slot

-- a planned part does
abbrev pub holds_by_plan : StandNo → List ℕ → Slot → Bool
holds_by_plan stand minutes slot =
    is_on stand slot && not slot.actual && is_held_at_some minutes slot

-- a hash: an actual part holds the stand
abbrev pub actual_mark : ℕ
actual_mark = 35

-- an equals sign: a planned part holds it
abbrev pub planned_mark : ℕ
planned_mark = 61

-- a dot: no part holds it
abbrev pub free_mark : ℕ
free_mark = 46

-- how the stand is held at some of these minutes: an actual part goes before a planned one
abbrev pub cell : List Slot → StandNo → List ℕ → ℕ
cell slots stand minutes =
    if list_any (holds_in_fact stand minutes) slots then actual_mark
    else (if list_any (holds_by_plan stand minutes) slots then planned_mark else free_mark)

-- the cells of a stand, a quarter of an hour each
abbrev pub cells : List Slot → ℕ → StandNo → List ℕ
cells slots day stand =
    map (λ quarter. cell slots stand (quarter_minutes day quarter)) (range_with_len 0 cells_of_day)

-- the name of a stand and its cells
abbrev pub stand_line : AirportParts → List Slot → ℕ → StandNo → List ℕ
stand_line airport slots day stand =
    stand_text airport stand ++ codes " " ++ cells slots day stand ++ codes "\n"
