-- The alarms: actual parts that clash on a day.
use Rattle.std.specs.Prelude.{◌+◌, ◌++◌, ◌∷◌, [], ◌&&◌, max, min, ℕ, Bool, List, Option, None, option_map, codes, filter_map, if◌then◌else◌}
use Rattle.std.specs.List.{flat_map}
use Rattle.apron_base.specs.declared.slot.Slot.{Slot}
use Rattle.apron_rules.specs.declared.parts.AirportParts.{AirportParts}
use Rattle.apron_rules.specs.declared.rules.Clash.{Clash}
use Rattle.clash_check.specs.Meetings.{clash_within, is_smaller}
use Rattle.apron_rules.specs.RuleWords.{rule_word}
use Rattle.plan_lists.specs.Days.{day_length, day_start, minutes_of_day}
use Rattle.wall_chart.specs.Cells.{is_held_at_some}
use Rattle.wall_chart.specs.Order.{in_order}
use Rattle.wall_chart.specs.Rows.{part_text}
use Rattle.wall_chart.specs.Times.{time_text}

-- both are actual parts, and the first is the smaller
abbrev pub are_actual : Slot → Slot → Bool
are_actual slot other = slot.actual && other.actual && is_smaller slot.part other.part

-- the clash of two slots at the first of the day's minutes at which they clash, with the rule of
-- that minute
abbrev pub clash_on : AirportParts → ℕ → Slot → Slot → Option Clash
clash_on airport day slot other = clash_within airport slot (day_start day) day_length other

-- the alarm of two actual parts, the first of which is the smaller: their clash on the day, if they
-- clash on it
abbrev pub alarm : AirportParts → ℕ → Slot → Slot → Option Clash
alarm airport day slot other =
    if are_actual slot other then clash_on airport day slot other else None

-- an actual part is held at some minute of the day
abbrev pub is_actual_on : ℕ → Slot → Bool
is_actual_on day slot = slot.actual && is_held_at_some (minutes_of_day day) slot

-- the first part of the clash is the smaller one
abbrev pub is_in_order : Clash → Bool
is_in_order clash = is_smaller clash.a clash.b

-- what orders the alarms: the minute, and the two parts
abbrev pub alarm_order : Clash → List ℕ
alarm_order clash =
    clash.minute ∷ clash.a.visit.0 ∷ clash.a.part ∷ clash.b.visit.0 ∷ clash.b.part ∷ []

-- the alarms of a slot with any of these
abbrev pub alarms_with : AirportParts → ℕ → List Slot → Slot → List Clash
alarms_with airport day slots slot = filter_map (alarm airport day slot) slots

-- the alarms of any two of these, in order of minute, part and part
abbrev pub alarms : AirportParts → ℕ → List Slot → List Clash
alarms airport day slots = in_order alarm_order (flat_map (alarms_with airport day slots) slots)

-- TIME PART, and a space after each
abbrev pub alarm_head : Clash → List ℕ
alarm_head clash = time_text clash.minute ++ codes " " ++ part_text clash.a ++ codes " "

-- TIME PART PART RULE
abbrev pub alarm_line : Clash → List ℕ
alarm_line clash =
    alarm_head clash ++ part_text clash.b ++ codes " " ++ rule_word clash.rule ++ codes "\n"
