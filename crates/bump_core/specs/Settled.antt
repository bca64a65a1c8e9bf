-- The plan after an entry that says what happened.
use Rattle.std.specs.Prelude.{◌≡◌, ◌≢◌, ◌⊎◌, ◌+◌, [], ℕ, List, Option, None, Some, sum_by}
use Rattle.apron_rules.specs.declared.parts.AirportParts.{AirportParts}
use Rattle.clash_check.specs.Steps.{steps_near}
use Rattle.stand_index.specs.Slots.{StandSlots}
use Rattle.visit_book.specs.declared.visits.Visit.{Visit}
use Rattle.visit_book.specs.Numbers.{with_visit}
use Rattle.visit_book.specs.Slots.{slots_of_visit}
use Rattle.plan_core.specs.Moving.{IsChangedCopy}
use Rattle.plan_core.specs.PlanState.{IsVisitAt, PlanState}
use Rattle.bump_core.specs.Bumped.{bumped_of}
use Rattle.bump_core.specs.Settle.{settle}

-- the visits after one changed, if one did
abbrev pub with_changed : List Visit → Option Visit → List Visit
with_changed visits None = visits
with_changed visits (Some visit) = with_visit visits visit

-- the plan after its next entry, which changes this visit or none: the visits are settled by it
abbrev pub with_settled : PlanState → Option Visit → PlanState
with_settled plan changed = record {
  airport = plan.airport;
  visits = settle plan.airport (plan.version + 1) (with_changed plan.visits changed);
  drafts = plan.drafts;
  version = plan.version + 1;
}

-- a changed copy of a plan's visit, valid for the plan and added by the same entry with the same
-- data
pub record IsChanged (plan : PlanState) (visit : Visit) : Type 0 where
  pub visit_at : IsVisitAt plan.airport plan.version visit
  pub of : IsChangedCopy plan.visits visit

-- the most steps of settling: those of looking for the clashes of each part of the changed visit
-- that is on a stand, and none if no visit is changed
abbrev pub settle_steps : AirportParts → List StandSlots → Option Visit → ℕ
settle_steps airport index None = 0
settle_steps airport index (Some changed) =
    sum_by (steps_near airport index) (slots_of_visit airport changed)

-- the visit is the changed one, or a part of it lost its stand by the entry
abbrev pub IsChangedBy : ℕ → Option Visit → Visit → Type 0
IsChangedBy entry None visit = bumped_of entry visit ≢ []
IsChangedBy entry (Some changed) visit = (visit.number ≡ changed.number)
    ⊎ (bumped_of entry visit ≢ [])
