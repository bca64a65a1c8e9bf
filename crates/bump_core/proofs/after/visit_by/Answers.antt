use Rattle.bump_core.proofs.ByLists.{by_more}
use Rattle.bump_core.proofs.after.visit_by.Goals as goal

pub loop-index-preserved : goal.loop-index-preserved
loop-index-preserved c =
    by_more c.args.entry c.args.blockings.now c.args.visit.now.number c.as_slice-own.result.now c.loop-index.index _ c.loop-index.parts _ _
    c.loop-index-test.true c.loop-index.invariant c.part_by.ensures.is c.with-parts.ensures.is
