-- The first minute at which two slots clash, by trying each minute, and the clashes of one slot.
use Rattle.std.specs.Prelude.{ℕ, zero, suc, ◌+◌, ◌==◌, ◌&&◌, ◌||◌, min, nat_lt, Bool, List, Option, None, option_map, filter_map}
use Rattle.std.specs.Option.{option_or}
use Rattle.apron_base.specs.declared.numbers.PartId.{PartId}
use Rattle.apron_base.specs.declared.slot.Slot.{Slot}
use Rattle.apron_base.specs.Sorting.{sorted_by}
use Rattle.apron_rules.specs.declared.parts.AirportParts.{AirportParts}
use Rattle.apron_rules.specs.declared.rules.Clash.{Clash}
use Rattle.apron_rules.specs.declared.rules.Meeting.{Meeting}
use Rattle.apron_rules.specs.Clash.{rule_at}

-- the first of this many minutes, from this one on, at which the slots clash, with its rule
unfoldable pub meeting_from : AirportParts → Slot → Slot → ℕ → ℕ → Option Meeting
meeting_from airport slot other minute zero = None
meeting_from airport slot other minute (suc more) =
    option_or (option_map (λ rule. record { minute = minute; rule = rule })
    (rule_at airport slot other minute))
    (meeting_from airport slot other (minute + 1) more)

-- the first minute at which the slots clash, with its rule: the minutes are tried up to the end of
-- either
unfoldable pub meeting : AirportParts → Slot → Slot → Option Meeting
meeting airport slot other = meeting_from airport slot other 0 (min slot.end other.end)

-- the clash of two slots with this meeting: the first one's part is a
abbrev pub clash_at : Slot → Slot → Meeting → Clash
clash_at slot other at = record {
  minute = at.minute;
  a = slot.part;
  b = other.part;
  rule = at.rule;
}

-- the clash of a slot with another, at their first minute
abbrev pub clash_with : AirportParts → Slot → Slot → Option Clash
clash_with airport slot other =
    option_map (λ at. clash_at slot other at) (meeting airport slot other)

-- the clash of a slot with each of these that it clashes with, actual or planned, in their order
abbrev pub clashes_with : AirportParts → Slot → List Slot → List Clash
clashes_with airport slot others = filter_map (clash_with airport slot) others

-- the clash of a slot with another, at the first of this many minutes, from this one on
abbrev pub clash_within : AirportParts → Slot → ℕ → ℕ → Slot → Option Clash
clash_within airport slot minute more other =
    option_map (λ at. clash_at slot other at) (meeting_from airport slot other minute more)

-- the clash of a slot with each of these that it clashes with in these minutes, in their order
abbrev pub clashes_within : AirportParts → Slot → ℕ → ℕ → List Slot → List Clash
clashes_within airport slot minute more others =
    filter_map (clash_within airport slot minute more) others

-- the part is of a smaller visit, or is a smaller part of the same visit
abbrev pub is_smaller : PartId → PartId → Bool
is_smaller part other = nat_lt part.visit.0 other.visit.0
    || (part.visit.0 == other.visit.0 && nat_lt part.part other.part)

-- the slots in order of their parts
abbrev pub by_part : List Slot → List Slot
by_part slots = sorted_by (λ slot other. is_smaller slot.part other.part) slots
