-- How a visit comes into a plan.
use Rattle.std.specs.Prelude.{◌≡◌, ◌+◌, ◌++◌, ◌∷◌, [], length, None}
use Rattle.visit_book.specs.declared.visits.NewVisit.{NewVisit}
use Rattle.visit_book.specs.declared.visits.Visit.{Visit}
use Rattle.visit_book.specs.NewVisits.{IsNewVisitOf, added_visit, new_of}
use Rattle.visit_book.specs.WellFormed.{IsWellFormed}
use Rattle.plan_core.specs.Names.{visit_named}
use Rattle.plan_core.specs.PlanState.{ChangeState, PlanState}

-- the visit that the plan's next entry adds with these data: it has the next number
abbrev pub next_visit : PlanState → NewVisit → Visit
next_visit plan new = added_visit (length plan.visits + 1) (plan.version + 1) new

-- a visit that the plan may be asked to add: it is what the next entry adds with data valid at the
-- airport, it is well formed, and no visit has its name
pub record IsAddable (plan : PlanState) (visit : Visit) : Type 0 where
  pub is : visit ≡ next_visit plan (new_of visit)
  pub new : IsNewVisitOf plan.airport (new_of visit)
  pub well_formed : IsWellFormed plan.airport visit
  pub name : visit_named plan.visits visit.name ≡ None

-- the change that adds the visit, which is on no stand yet
abbrev pub add_change : PlanState → Visit → ChangeState
add_change plan visit = record {
  visits = visit ∷ [];
  slots = [];
  draft = None;
  version = plan.version + 1;
}

-- the plan after the entry that adds a visit with these data
abbrev pub with_added : PlanState → NewVisit → PlanState
with_added plan new = record {
  airport = plan.airport;
  visits = plan.visits ++ next_visit plan new ∷ [];
  drafts = plan.drafts;
  version = plan.version + 1;
}
