-- What is known while a proposal grows.
use Rattle.std.specs.Prelude.{◌≡◌, ◌≤◌, ◌↔◌, ◌++◌, true, List, length, Contains, All, None, Some, Ok}
use Rattle.apron_base.specs.declared.numbers.PartId.{PartId}
use Rattle.apron_base.specs.declared.numbers.StandNo.{StandNo}
use Rattle.apron_base.specs.declared.numbers.TypeNo.{TypeNo}
use Rattle.apron_base.specs.declared.slot.Slot.{Slot}
use Rattle.apron_rules.specs.Clash.{IsSlotOf, IsSound}
use Rattle.visit_book.specs.declared.edits.Edit.{Edit}
use Rattle.visit_book.specs.declared.visits.Visit.{Visit}
use Rattle.visit_book.specs.Edits.{IsEditOf, most_edits}
use Rattle.visit_book.specs.Ends.{is_live}
use Rattle.visit_book.specs.Numbers.{visit_at}
use Rattle.visit_book.specs.PartFields.{part_at}
use Rattle.visit_book.specs.Places.{stand_of}
use Rattle.visit_book.specs.Slots.{slots_of}
use Rattle.visit_book.specs.WellFormed.{IsWellFormed}
use Rattle.plan_core.specs.Edits.{after_all_edits}
use Rattle.plan_core.specs.PlanState.{PlanState}
use Rattle.visit_book.specs.declared.visits.PartRow.{PartRow}
use Rattle.stand_proposer.specs.declared.proposals.Left.{Left}
use Rattle.stand_proposer.specs.Clauses.{ClashesAmong}
use Rattle.stand_proposer.specs.Proposals.{put_edit}

-- the part waits for a stand: its visit has this type, is live, and was not edited later
pub record Waits (plan : PlanState) (visits : List Visit)
    (kind : TypeNo) (row : PartRow) : Type 0 where
  pub visit : Visit
  pub at : visit_at visits row.id.visit ≡ Some visit
  pub kind_is : visit.kind ≡ kind
  pub fresh : visit.edited ≤ plan.version
  pub live : is_live visit ≡ true
  pub part : part_at visit.parts row.id.part ≡ Some row.part
  pub nowhere : stand_of row.part.place ≡ None

-- the part waits in the plan itself, whose visits are well formed
abbrev pub WaitsInPlan : PlanState → PartRow → Type 0
WaitsInPlan plan row =
    (kind : TypeNo) × (waits : Waits plan plan.visits kind row)
    × IsWellFormed plan.airport waits.visit

-- the slots of the plan, and those that edits add
abbrev pub slots_so_far : PlanState → List Slot → List Slot
slots_so_far plan slots = slots_of plan.airport plan.visits ++ slots

-- each clash given for these parts is with the plan or with slots that edits add
abbrev pub AreTold : PlanState → List Slot → List Left → Type 0
AreTold plan slots lefts = All (ClashesAmong plan (slots_so_far plan slots)) lefts

-- none of the edits puts the part on a stand
abbrev pub IsUnput : List Edit → PartId → Type 0
IsUnput edits part = (stand : StandNo) → Contains edits (put_edit part stand) → ⊥

-- the edits apply and leave the plan sound, the slots are what they add, and other parts still wait
pub record IsProposedSoFar (plan : PlanState) (edits : List Edit) (slots : List Slot) : Type 0 where
  pub new : List Visit
  pub apply : after_all_edits plan.airport plan.version edits plan.visits ≡ Ok new
  pub sound : IsSound plan.airport (slots_of plan.airport new)
  pub adds : (slot : Slot)
      → Contains (slots_so_far plan slots) slot ↔ Contains (slots_of plan.airport new) slot
  pub waits : (kind : TypeNo) (row : PartRow)
      → Waits plan plan.visits kind row → IsUnput edits row.id → Waits plan new kind row
  pub slots_are : All (IsSlotOf plan.airport) slots
  pub edits_are : All (IsEditOf plan.airport) edits
  pub few : length edits ≤ most_edits
