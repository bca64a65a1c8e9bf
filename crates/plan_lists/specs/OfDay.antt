-- The visits of a day: those that hold a stand on it or wait for one.
use Rattle.std.specs.Prelude.{◌&&◌, ◌||◌, ℕ, Bool, List, filter, nat_le, nat_lt}
use Rattle.std.specs.List.{list_any}
use Rattle.apron_rules.specs.declared.parts.AirportParts.{AirportParts}
use Rattle.visit_book.specs.declared.visits.Part.{Part}
use Rattle.visit_book.specs.declared.visits.Visit.{Visit}
use Rattle.visit_book.specs.Ends.{is_live}
use Rattle.plan_core.specs.PlanState.{PlanState}
use Rattle.visit_book.specs.declared.visits.PartRow.{PartRow}
use Rattle.plan_lists.specs.Days.{minutes_of_day}
use Rattle.plan_lists.specs.Held.{holds_on}
use Rattle.plan_lists.specs.Rows.{rows_of}
use Rattle.plan_lists.specs.Unplaced.{is_unplaced_row}

-- the minute is one of the part's own, not of its buffer
abbrev pub is_within : Part → ℕ → Bool
is_within part minute = nat_le part.from minute && nat_lt minute part.to

-- the part has a minute of the day
unfoldable pub is_of_day : ℕ → PartRow → Bool
is_of_day day row = list_any (is_within row.part) (minutes_of_day day)

-- the part of the visit waits for a stand and has a minute of the day
abbrev pub waits_on : ℕ → Visit → PartRow → Bool
waits_on day visit row = is_live visit && (is_unplaced_row row && is_of_day day row)

-- the part of the visit holds a stand on the day, or waits for one
abbrev pub is_seen_on : AirportParts → ℕ → Visit → PartRow → Bool
is_seen_on airport day visit row = holds_on airport day visit row || waits_on day visit row

-- a part of the visit holds a stand on the day, or waits for one
abbrev pub is_visit_of : AirportParts → ℕ → Visit → Bool
is_visit_of airport day visit = list_any (is_seen_on airport day visit) (rows_of visit)

-- the visits with a part that holds a stand on the day, or waits for one, in order of number
abbrev pub visits_on : PlanState → ℕ → List Visit
visits_on plan day = filter (is_visit_of plan.airport day) plan.visits
