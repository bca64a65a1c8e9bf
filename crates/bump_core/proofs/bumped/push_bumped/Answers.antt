use Rattle.bump_core.proofs.BumpLists.{bumped_more}
use Rattle.bump_core.proofs.bumped.push_bumped.Goals as goal

pub loop-index-preserved : goal.loop-index-preserved
loop-index-preserved c =
    bumped_more c.args.entry c.args.visit.now c.as_slice-own.result.now c.loop-index.index _ c.args.parts.now c.loop-index.parts _ _
    c.loop-index-test.true c.loop-index.invariant c.is_bumped_by.ensures.is c.in_ok-push_part_if.ensures.ok
