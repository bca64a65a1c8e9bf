-- What holds of a whole proposal.
use Rattle.std.specs.Prelude.{◌≡◌, Contains, List, Option, Some, Ok, slice_get}
use Rattle.apron_base.specs.OptionChain.{◌>>=◌}
use Rattle.apron_base.specs.declared.numbers.PartId.{PartId}
use Rattle.apron_base.specs.declared.numbers.StandNo.{StandNo}
use Rattle.apron_base.specs.declared.slot.Slot.{Slot}
use Rattle.apron_rules.specs.declared.parts.AirportParts.{AirportParts}
use Rattle.apron_rules.specs.declared.rules.Clash.{Clash}
use Rattle.clash_check.specs.FirstWith.{IsClashOfBoth}
use Rattle.visit_book.specs.declared.drafts.Draft.{Draft}
use Rattle.visit_book.specs.declared.edits.Edit.{Edit}
use Rattle.visit_book.specs.declared.visits.Place.TheVariants.{Planned}
use Rattle.visit_book.specs.declared.visits.Visit.{Visit}
use Rattle.visit_book.specs.Numbers.{visit_at}
use Rattle.visit_book.specs.PartFields.{part_at}
use Rattle.visit_book.specs.Slots.{slot_on, slots_of}
use Rattle.plan_core.specs.Edits.{after_all_edits, part_at_place}
use Rattle.plan_core.specs.PlanState.{PlanState}
use Rattle.plan_core.specs.Rebase.{IsDraftFor, Rebases}
use Rattle.stand_proposer.specs.declared.proposals.Left.{Left}
use Rattle.stand_proposer.specs.declared.proposals.Why.TheVariants as why

-- the plan may be asked to take the draft, and takes it
pub record TakesDraft (plan : PlanState) (draft : Draft) : Type 0 where
  pub asked : IsDraftFor plan draft
  pub new : List Visit
  pub rebases : Rebases plan draft new

-- the slot that the part has if it is put on the stand
abbrev pub slot_if_put : AirportParts → List Visit → PartId → StandNo → Option Slot
slot_if_put airport visits part stand =
    visit_at visits part.visit >>= λ visit. part_at visit.parts part.part
    >>= λ own. Some (slot_on airport visit part.part (part_at_place (Planned stand) own) stand)

-- the part, if it is put on the stand, clashes in this way with one of these slots
pub record ClashesWith (plan : PlanState) (slots : List Slot)
    (part : PartId) (stand : StandNo) (clash : Clash) : Type 0 where
  pub slot : Slot
  pub is : slot_if_put plan.airport plan.visits part stand ≡ Some slot
  pub other : Slot
  pub among : Contains slots other
  pub clashes : IsClashOfBoth plan.airport slot other clash

-- each clash given for a part that was left out is with one of these slots
abbrev pub ClashesAmong : PlanState → List Slot → Left → Type 0
ClashesAmong plan slots left =
    (stand : StandNo) (clash : Clash) → slice_get left.why stand.0 ≡ Some (why.Clash clash)
    → ClashesWith plan slots left.part stand clash

-- each clash given for a part that was left out is with a part of the plan with all the edits
abbrev pub ClashesHold : PlanState → List Edit → Left → Type 0
ClashesHold plan edits left =
    (new : List Visit) → after_all_edits plan.airport plan.version edits plan.visits ≡ Ok new
    → ClashesAmong plan (slots_of plan.airport new) left
