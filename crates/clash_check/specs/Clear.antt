-- In which index clashes are looked for, and what is left of it without some visits.
use Rattle.std.specs.Prelude.{◌≡◌, ◌≤◌, ◌==◌, Bool, not, List, All, length, filter, count_by}
use Rattle.std.specs.List.{list_any}
use Rattle.apron_base.specs.declared.numbers.PartId.{PartId}
use Rattle.apron_base.specs.declared.numbers.VisitNo.{VisitNo}
use Rattle.apron_base.specs.declared.slot.Slot.{Slot}
use Rattle.apron_rules.specs.declared.parts.AirportParts.{AirportParts}
use Rattle.apron_rules.specs.Clash.{IsSlotOf, IsSound}
use Rattle.stand_index.specs.Slots.{StandSlots, is_of_part}
use Rattle.clash_check.specs.Indexed.{all_slots}

-- the slot is of one of these visits
abbrev pub is_of_any : List VisitNo → Slot → Bool
is_of_any visits slot = list_any (λ visit. visit.0 == slot.part.visit.0) visits

-- the slot is of none of these visits
abbrev pub is_of_other : List VisitNo → Slot → Bool
is_of_other visits slot = not (is_of_any visits slot)

-- the slots of an index without those of these visits
abbrev pub others_of : List StandSlots → List VisitNo → List Slot
others_of index without = filter (is_of_other without) (all_slots index)

-- each part has at most one slot
abbrev pub HasPartsOnce : List Slot → Type 0
HasPartsOnce slots = (part : PartId) → count_by (is_of_part part) slots ≤ 1

-- the index has the airport's stands; its slots have a stand and a type of the airport, and no two
-- are of the same part; leaving these visits out, only actual slots clash
pub record IsClear (airport : AirportParts) (index : List StandSlots)
    (without : List VisitNo) : Type 0 where
  pub stands : length index ≡ length airport.stands
  pub slots : All (IsSlotOf airport) (all_slots index)
  pub parts : HasPartsOnce (all_slots index)
  pub sound : IsSound airport (others_of index without)
