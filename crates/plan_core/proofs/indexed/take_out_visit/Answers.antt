use Rattle.plan_core.proofs.IndexedOut.{out_done_parts, out_next_part}
use Rattle.plan_core.proofs.IndexedStands.{room_both}
use Rattle.plan_core.proofs.indexed.take_out_visit.Goals as goal

pub loop-place-preserved : goal.loop-place-preserved
loop-place-preserved c = record {
  told = out_next_part c.args.visit.now.number c.as_slice-parts.result.now c.loop-place.place _ _ _ _ c.loop-place-test.true c.take_out_part.ensures.slots c.loop-place.invariant.told;
  index = c.take_out_part.ensures.index;
  room = room_both _ _ _ c.loop-place.invariant.room c.take_out_part.ensures.room;
}

pub returns-clause-slots : goal.returns-clause-slots
returns-clause-slots c = out_done_parts c.args.visit.now.number c.as_slice-parts.result.now c.loop-place.place _ _ c.loop-place-test.false c.loop-place.invariant.told
