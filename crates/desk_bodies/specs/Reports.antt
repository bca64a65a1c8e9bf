-- The bodies of a report and of a cancel.
use Rattle.std.specs.Prelude.{ℕ, List, codes, Option, Some, None, option_map}
use Rattle.apron_base.specs.OptionChain.{◌>>=◌}
use Rattle.serde_json.specs.Data.{Data}
use Rattle.serde_json.specs.Find.{get}
use Rattle.desk_bodies.specs.Commits.{json_part_number, json_visit_number}
use Rattle.desk_bodies.specs.Fields.{body_data, max_u32, number_at, text_at}

-- what happened, with its stand by the bytes of its name
pub data EventSaid : Type 0 where
  on : ℕ → List ℕ → ℕ → EventSaid
  off : ℕ → EventSaid

-- what happened to a visit
pub record ReportSaid : Type 0 where
  pub visit : ℕ
  pub event : EventSaid

-- the minute of a report
abbrev pub minute_at : Data → Option ℕ
minute_at d = number_at (codes "minute") max_u32 d

-- {"part":P,"stand":STAND,"minute":M}
abbrev pub json_on : Data → Option EventSaid
json_on d = do Some (on (← json_part_number d) (← text_at (codes "stand") d) (← minute_at d))

-- {"minute":M}
abbrev pub json_off : Data → Option EventSaid
json_off d = option_map off (minute_at d)

-- the event if exactly one of the two keys is there, whatever the value of the other would be
abbrev pub only_event : Option Data → Option Data → Option EventSaid
only_event (Some d) None = json_on d
only_event None (Some d) = json_off d
only_event coming leaving = None

-- {"visit":N,"on":..} or {"visit":N,"off":..}
unfoldable pub json_report : Data → Option ReportSaid
json_report d = do
  visit ← json_visit_number d
  event ← only_event (get (codes "on") d) (get (codes "off") d)
  Some (record { visit = visit; event = event })

-- the report of a body
abbrev pub body_report : List ℕ → Option ReportSaid
body_report bytes = body_data bytes >>= json_report

-- {"visit":N}, the number of the visit that a body cancels
abbrev pub body_cancel : List ℕ → Option ℕ
body_cancel bytes = body_data bytes >>= json_visit_number
