use Rattle.std.proofs.Common.{◌≤◌, ◌∙◌, subst}
use Rattle.std.specs.Prelude.{All, count_by}
use Rattle.std.proofs.lemmas.List.{take_all}
use Rattle.stand_index.specs.Slots.{at_stand}
use Rattle.plan_core.specs.PlanState.{is_on}
use Rattle.plan_core.proofs.IndexedIn.{each_roomy, room_everywhere}
use Rattle.plan_core.proofs.IndexedStands.{room_both}
use Rattle.plan_core.proofs.indexed.reserve.Goals as goal

pub loop-slot-preserved : goal.loop-slot-preserved
loop-slot-preserved c = record {
  each = each_roomy c.loop-slot.index c.reserve_on.new.index c.args.slots.now c.loop-slot.slot-index _ c.loop-slot-test.true c.reserve_on.ensures.room c.loop-slot.invariant.each c.in_ok-reserve_on.ensures.ok;
  slots = c.reserve_on.ensures.slots ∙ c.loop-slot.invariant.slots;
  index = c.reserve_on.ensures.index;
  room = room_both _ _ _ c.loop-slot.invariant.room c.reserve_on.ensures.room;
}

pub returns-clause-ok : goal.returns-clause-ok
returns-clause-ok c =
    room_everywhere c.loop-slot.index c.args.slots.now
    (subst (All (λ slot. count_by (is_on slot.stand) c.args.slots.now ≤ (at_stand c.loop-slot.index slot.stand).spare)) (take_all c.loop-slot.slot-index c.args.slots.now c.loop-slot-test.false)
    c.loop-slot.invariant.each)
