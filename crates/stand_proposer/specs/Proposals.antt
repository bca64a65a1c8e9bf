-- What is proposed for the parts that wait: they are taken by rank, and the stands tried in order.
use Rattle.std.specs.Prelude.{◌≡◌, ◌<◌, ◌≤◌, ◌+◌, ◌++◌, ◌∷◌, [], ◌⊎◌, ℕ, List, length, map}
use Rattle.std.specs.List.{AllZip}
use Rattle.apron_base.specs.declared.numbers.PartId.{PartId}
use Rattle.apron_base.specs.declared.numbers.StandNo.{StandNo}
use Rattle.apron_rules.specs.Neighbours.{first_stands}
use Rattle.visit_book.specs.declared.drafts.Draft.{Draft}
use Rattle.visit_book.specs.declared.edits.Edit.{Edit}
use Rattle.visit_book.specs.declared.edits.Edit.TheVariants.{Put}
use Rattle.visit_book.specs.declared.edits.EditFault.{EditFault}
use Rattle.visit_book.specs.declared.edits.EditFault.TheVariants as fault
use Rattle.visit_book.specs.declared.visits.Visit.{Visit}
use Rattle.visit_book.specs.Edits.{most_edits}
use Rattle.plan_core.specs.PlanState.{PlanState}
use Rattle.plan_core.specs.Rebase.{Rebases, RefusesDraft}
use Rattle.plan_lists.specs.Unplaced.{unplaced_parts}
use Rattle.stand_proposer.specs.declared.proposals.Left.{Left}
use Rattle.stand_proposer.specs.declared.proposals.Proposal.{Proposal}
use Rattle.stand_proposer.specs.declared.proposals.Why.{Why}
use Rattle.stand_proposer.specs.declared.proposals.Why.TheVariants.{Unfit, Clash}

-- the edit that puts the part on the stand
abbrev pub put_edit : PartId → StandNo → Edit
put_edit part stand = Put part.visit part.part stand

-- a draft of these edits over the plan as it is; its desk and number do not matter here
abbrev pub draft_over : PlanState → List Edit → Draft
draft_over plan edits = record { desk = []; number = 0; base = plan.version; edits = edits }

-- the draft of the edits so far and one more, which puts the part on the stand
abbrev pub draft_with : PlanState → List Edit → PartId → StandNo → Draft
draft_with plan edits part stand = draft_over plan (edits ++ put_edit part stand ∷ [])

-- the fault for this reason, if the edit of this number puts the part on the stand
abbrev pub edit_fault : ℕ → Why → EditFault
edit_fault number (Unfit by) = fault.Unfit number by
edit_fault number (Clash clash) = fault.Clash clash

-- why the stand does not take the part: the type does not fit, or else this is the first clash
abbrev pub IsWhy : PlanState → List Edit → PartId → StandNo → Why → Type 0
IsWhy plan edits part stand why =
    RefusesDraft plan (draft_with plan edits part stand) (edit_fault (length edits + 1) why)

-- why each stand below this count does not take the part, in order
abbrev pub AreWhys : PlanState → List Edit → PartId → ℕ → List Why → Type 0
AreWhys plan edits part count whys = AllZip (IsWhy plan edits part) (first_stands count) whys

-- the first stand that takes the part: the draft with it applies, and no stand before it does
pub record IsFirstFit (plan : PlanState) (edits : List Edit)
    (part : PartId) (stand : StandNo) : Type 0 where
  pub inside : stand.0 < length plan.airport.stands
  pub new : List Visit
  pub rebases : Rebases plan (draft_with plan edits part stand) new
  pub whys : List Why
  pub before : AreWhys plan edits part stand.0 whys

-- the proposal with one more edit
abbrev pub with_edit : Proposal → Edit → Proposal
with_edit proposal edit = record proposal { edits = proposal.edits ++ edit ∷ [] }

-- the proposal with one more part that no stand takes
abbrev pub with_left : Proposal → Left → Proposal
with_left proposal left = record proposal { left = proposal.left ++ left ∷ [] }

-- the proposal with one more part that is not tried
abbrev pub with_over : Proposal → PartId → Proposal
with_over proposal part = record proposal { over = proposal.over ++ part ∷ [] }

-- the part is put on the first stand that takes it
abbrev pub IsPut : PlanState → Proposal → PartId → Proposal → Type 0
IsPut plan before part after =
    (stand : StandNo) × IsFirstFit plan before.edits part stand
    × (after ≡ with_edit before (put_edit part stand))

-- no stand takes the part, and each has its reason
abbrev pub IsLeft : PlanState → Proposal → PartId → Proposal → Type 0
IsLeft plan before part after =
    (whys : List Why) × AreWhys plan before.edits part (length plan.airport.stands) whys
    × (after ≡ with_left before (record { part = part; why = whys }))

-- what one more part makes of a proposal: it is put or left, or not tried after the most edits
abbrev pub IsDecided : PlanState → Proposal → PartId → Proposal → Type 0
IsDecided plan before part after =
    ((length before.edits < most_edits)
    × (IsPut plan before part after ⊎ IsLeft plan before part after))
    ⊎ ((most_edits ≤ length before.edits) × (after ≡ with_over before part))

-- what these parts make of a proposal, one after the other in this order
abbrev pub AreDecided : PlanState → Proposal → List PartId → Proposal → Type 0
AreDecided plan before [] after = after ≡ before
AreDecided plan before (part ∷ parts) after =
    (next : Proposal) × IsDecided plan before part next × AreDecided plan next parts after

-- the proposal over the plan as it is, before any part is taken
abbrev pub nothing_proposed : PlanState → Proposal
nothing_proposed plan = record { base = plan.version; edits = []; left = []; over = [] }

-- the parts of live visits that wait for a stand, by rank
abbrev pub waiting_parts : PlanState → List PartId
waiting_parts plan = map (λ row. row.id) (unplaced_parts plan)

-- what is proposed over the plan: all waiting parts are decided, by rank
abbrev pub IsProposal : PlanState → Proposal → Type 0
IsProposal plan proposal = AreDecided plan (nothing_proposed plan) (waiting_parts plan) proposal
