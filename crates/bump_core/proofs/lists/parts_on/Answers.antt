use Rattle.bump_core.proofs.PartLists.{part_more}
use Rattle.bump_core.proofs.lists.parts_on.Goals as goal

pub loop-index-preserved : goal.loop-index-preserved
loop-index-preserved c =
    part_more c.args.airport.now c.args.visit.now c.as_slice-parts.result.now c.loop-index.index _ c.loop-index.found _ _ c.loop-index-test.true
    c.loop-index.invariant c.slot_of.ensures.is c.in_ok-push_ranked.ensures.ok
