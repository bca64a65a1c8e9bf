use Rattle.std.proofs.Common.{subst}
use Rattle.plan_core.specs.Indexed.{IsIndexedPlan}
use Rattle.plan_core.specs.PlanState.{PlanHeld}
use Rattle.plan_core.proofs.IndexedPlan.{index_ordered, plan_clear}
use Rattle.plan_core.proofs.plan.Plan.index.Goals as goal

pub returns-clause-clear : goal.returns-clause-clear
returns-clause-clear c =
    plan_clear c.args.self.now.plan c.args.self.now.index (subst (λ (s : PlanHeld). IsIndexedPlan s.plan s.index) c.self.view_is c.self.invariant)

pub returns-clause-ordered : goal.returns-clause-ordered
returns-clause-ordered c =
    index_ordered c.args.self.now.plan c.args.self.now.index (subst (λ (s : PlanHeld). IsIndexedPlan s.plan s.index) c.self.view_is c.self.invariant)
