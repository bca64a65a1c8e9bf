use Rattle.std.proofs.Common.{◌<◌, arith, length}
use Rattle.visit_book.specs.PartFields.{no_part}
use Rattle.plan_core.proofs.Moved.{lifted_next}
use Rattle.plan_core.proofs.cancelling.all_lifted.Goals as goal

pub loop-index-preserved : goal.loop-index-preserved
loop-index-preserved c =
    let inside : c.loop-index.index < length c.args.parts = omega arith in
    lifted_next c.loop-index.index c.args.parts c.loop-index.made c.with-made.result c.as_slice.result.now no_part c.lifted_part.result c.as_slice.ensures.is inside
    c.loop-index.invariant c.lifted_part.ensures.is c.with-made.ensures.is
