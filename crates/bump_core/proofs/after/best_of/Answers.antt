use Rattle.std.specs.Prelude.{None}
use Rattle.bump_core.specs.Lists.{is_of}
use Rattle.bump_core.specs.Settle.{with_better}
use Rattle.bump_core.proofs.Grow.{folded_more}
use Rattle.bump_core.proofs.after.best_of.Goals as goal

pub loop-blocking-preserved : goal.loop-blocking-preserved
loop-blocking-preserved c =
    folded_more with_better None (is_of c.args.id) c.args.blockings.now c.loop-blocking.blocking-index _ c.loop-blocking.best _
    c.loop-blocking-test.true c.loop-blocking.invariant c.better_of-best.ensures.is
