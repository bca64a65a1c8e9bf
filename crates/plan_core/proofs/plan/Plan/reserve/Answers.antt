use Rattle.std.proofs.Common.{◌∙◌, ap, refl, subst}
use Rattle.plan_core.specs.Indexed.{IsIndexedPlan}
use Rattle.plan_core.specs.PlanState.{PlanHeld, PlanState}
use Rattle.plan_core.proofs.IndexedPlan.{reserved, slots_stands}
use Rattle.plan_core.proofs.plan.Plan.reserve.Goals as goal

pub reserve-requires-2-clause-stands : goal.reserve-requires-2-clause-stands
reserve-requires-2-clause-stands c =
    slots_stands c.args.self.now.plan c.self.inside.index c.args.change.now.visits c.slots.result.now
    (subst (λ (s : PlanState). IsIndexedPlan s c.self.inside.index) (ap (λ (s : PlanHeld). s.plan) c.self.view_is) c.self.invariant) c.requires.each
    (c.slots.ensures.value ∙ c.requires.slots)

pub invariant_of-self-in_err-reserve-2 : goal.invariant_of-self-in_err-reserve-2
invariant_of-self-in_err-reserve-2 c =
    reserved _ c.self.inside.index c.reserve-2.new.index _ _ c.self.invariant c.reserve.ensures.kept refl c.reserve-2.ensures.room.stands c.reserve-2.ensures.slots
    c.reserve-2.ensures.index

pub invariant_of-self-in-Continue-branch-3 : goal.invariant_of-self-in-Continue-branch-3
invariant_of-self-in-Continue-branch-3 c =
    reserved _ c.self.inside.index c.reserve-2.new.index _ _ c.self.invariant c.reserve.ensures.kept c.reserve-then-is_some.ensures.kept c.reserve-2.ensures.room.stands
    c.reserve-2.ensures.slots c.reserve-2.ensures.index

pub invariant_of-self-in_err-reserve-3 : goal.invariant_of-self-in_err-reserve-3
invariant_of-self-in_err-reserve-3 c =
    reserved _ c.self.inside.index c.reserve-2.new.index _ _ c.self.invariant c.reserve.ensures.kept c.reserve-then-is_some.ensures.kept c.reserve-2.ensures.room.stands
    c.reserve-2.ensures.slots c.reserve-2.ensures.index

pub invariant_of-self-else-is_some : goal.invariant_of-self-else-is_some
invariant_of-self-else-is_some c =
    reserved _ c.self.inside.index c.reserve-2.new.index _ _ c.self.invariant c.reserve.ensures.kept refl c.reserve-2.ensures.room.stands c.reserve-2.ensures.slots
    c.reserve-2.ensures.index
