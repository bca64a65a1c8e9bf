use Rattle.plan_core.proofs.SlotLists.{slots_push}
use Rattle.wall_chart.proofs.slots.push_slots_of_visit.Goals as goal

pub loop-index-preserved : goal.loop-index-preserved
loop-index-preserved c =
    slots_push c.args.airport.now c.args.visit.now c.as_slice-parts.result.now c.loop-index.index _ c.args.slots.now.items c.loop-index.slots.items _ _
    c.loop-index-test.true c.loop-index.invariant c.slot_of.ensures.is c.in_ok-push_slot.ensures.ok
