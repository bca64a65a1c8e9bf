-- The parts that hold a stand on a day.
use Rattle.std.specs.Prelude.{ℕ, Bool, false, List, Option, None, Some, filter}
use Rattle.std.specs.List.{flat_map, list_any}
use Rattle.apron_base.specs.declared.slot.Slot.{Slot}
use Rattle.apron_rules.specs.declared.parts.AirportParts.{AirportParts}
use Rattle.apron_rules.specs.Clash.{is_held}
use Rattle.visit_book.specs.declared.visits.Visit.{Visit}
use Rattle.visit_book.specs.Slots.{slot_of}
use Rattle.plan_core.specs.PlanState.{PlanState}
use Rattle.visit_book.specs.declared.visits.PartRow.{PartRow}
use Rattle.plan_lists.specs.Days.{minutes_of_day}
use Rattle.plan_lists.specs.Rows.{rows_of}

-- the slot, if there is one, holds its stand at some minute of the day
unfoldable pub is_held_on : ℕ → Option Slot → Bool
is_held_on day None = false
is_held_on day (Some slot) = list_any (is_held slot) (minutes_of_day day)

-- the part of the visit is on a stand and holds it at some minute of the day
abbrev pub holds_on : AirportParts → ℕ → Visit → PartRow → Bool
holds_on airport day visit row = is_held_on day (slot_of airport visit row.id.part row.part)

-- the parts of the visit that hold a stand on the day
abbrev pub held_of : AirportParts → ℕ → Visit → List PartRow
held_of airport day visit = filter (holds_on airport day visit) (rows_of visit)

-- the parts of all visits that hold a stand on the day, in order of visit and part
abbrev pub held_on : PlanState → ℕ → List PartRow
held_on plan day = flat_map (held_of plan.airport day) plan.visits
