-- The index of a plan's slots.
use Rattle.std.specs.Prelude.{◌≡◌, ◌↔◌, List, Contains, length}
use Rattle.apron_base.specs.declared.slot.Slot.{Slot}
use Rattle.apron_rules.specs.declared.parts.AirportParts.{AirportParts}
use Rattle.stand_index.specs.Slots.{IsIndex, StandSlots}
use Rattle.clash_check.specs.Clear.{HasPartsOnce}
use Rattle.clash_check.specs.Indexed.{all_slots}
use Rattle.visit_book.specs.declared.visits.Visit.{Visit}
use Rattle.visit_book.specs.Slots.{slots_of}
use Rattle.plan_core.specs.PlanState.{IsPlan, PlanState}

-- the index has the airport's stands, and exactly the slots of the visits, each once
pub record IsIndexed (airport : AirportParts) (index : List StandSlots)
    (visits : List Visit) : Type 0 where
  pub stands : length index ≡ length airport.stands
  pub slots : (slot : Slot)
      → Contains (all_slots index) slot ↔ Contains (slots_of airport visits) slot
  pub parts : HasPartsOnce (all_slots index)

-- what holds of every plan and the index of its slots
pub record IsIndexedPlan (plan : PlanState) (index : List StandSlots) : Type 0 where
  pub plan_is : IsPlan plan
  pub indexed : IsIndexed plan.airport index plan.visits
  pub index_is : IsIndex index
