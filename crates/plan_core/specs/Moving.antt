-- Changes that no draft asks for: what happened to visits, and cancelled visits.
use Rattle.std.specs.Prelude.{◌≡◌, ◌+◌, true, false, List, [], ◌∷◌, length, map, All, None, Some}
use Rattle.apron_base.specs.Histories.{Rises}
use Rattle.apron_rules.specs.Clash.{IsSound}
use Rattle.visit_book.specs.declared.visits.End.TheVariants.{Cancelled}
use Rattle.visit_book.specs.declared.visits.Part.{Part}
use Rattle.visit_book.specs.declared.visits.Place.TheVariants.{Unplaced}
use Rattle.visit_book.specs.declared.visits.Visit.{Visit}
use Rattle.visit_book.specs.Ends.{is_live}
use Rattle.visit_book.specs.Numbers.{visit_at}
use Rattle.visit_book.specs.Slots.{slots_of}
use Rattle.plan_core.specs.PlanState.{ChangeState, IsSameVisit, IsVisitAt, PlanState, put_in, visit_number}

-- a changed copy of one of the visits, added by the same entry with the same data
pub record IsChangedCopy (visits : List Visit) (visit : Visit) : Type 0 where
  pub before : Visit
  pub at : visit_at visits visit.number ≡ Some before
  pub same : IsSameVisit visit before

-- changed visits that the plan's next entry may put in: each is a changed copy of a visit of the
-- plan, and valid at the next version; their numbers rise; and the plan with them is sound
pub record IsMovable (plan : PlanState) (visits : List Visit) : Type 0 where
  pub each : All (IsVisitAt plan.airport (plan.version + 1)) visits
  pub rise : Rises visit_number 1 (length plan.visits + 1) visits
  pub same : All (IsChangedCopy plan.visits) visits
  pub sound : IsSound plan.airport (slots_of plan.airport (put_in plan.visits visits))

-- the change that puts in these changed visits of the plan: it has their slots, and makes the next
-- version
abbrev pub move_change : PlanState → List Visit → ChangeState
move_change plan visits = record {
  visits = visits;
  slots = slots_of plan.airport visits;
  draft = None;
  version = plan.version + 1;
}

-- the part, on no stand and without a record
abbrev pub lifted_part : Part → Part
lifted_part part = record part { place = Unplaced None }

-- the visit, cancelled
abbrev pub cancelled_visit : Visit → Visit
cancelled_visit visit = record visit { parts = map lifted_part visit.parts; end = Cancelled }

-- the visit is one of the plan, live and not on block
pub record IsCancellable (plan : PlanState) (visit : Visit) : Type 0 where
  pub at : visit_at plan.visits visit.number ≡ Some visit
  pub live : is_live visit ≡ true
  pub expected : visit.on_block ≡ false

-- the plan after the entry that cancels the visit
abbrev pub with_cancelled : PlanState → Visit → PlanState
with_cancelled plan visit = record {
  airport = plan.airport;
  visits = put_in plan.visits (cancelled_visit visit ∷ []);
  drafts = plan.drafts;
  version = plan.version + 1;
}
