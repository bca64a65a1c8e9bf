use Rattle.plan_core.proofs.IndexedOut.{out_done, out_next}
use Rattle.plan_core.proofs.IndexedStands.{room_both}
use Rattle.plan_core.proofs.indexed.take_out.Goals as goal

pub loop-visit-preserved : goal.loop-visit-preserved
loop-visit-preserved c = record {
  told = out_next c.args.visits.now c.args.changed.now c.loop-visit.visit-index _ _ _ _ c.loop-visit-test.true c.visit-item.is c.take_out_number.ensures.slots c.loop-visit.invariant.told;
  index = c.take_out_number.ensures.index;
  room = room_both _ _ _ c.loop-visit.invariant.room c.take_out_number.ensures.room;
}

pub returns-clause-slots : goal.returns-clause-slots
returns-clause-slots c = out_done c.args.visits.now c.args.changed.now c.loop-visit.visit-index _ _ c.loop-visit-test.false c.loop-visit.invariant.told
