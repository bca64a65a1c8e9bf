use Rattle.bump_core.proofs.Touched.{touched_first, touched_more}
use Rattle.bump_core.proofs.after.touched_visits.Goals as goal

pub loop-blocking-init : goal.loop-blocking-init
loop-blocking-init c =
    touched_first c.args.plan.now.plan.visits c.new-some.result.items c.add_numbered.new.some.items c.args.changed c.new-some.ensures.items c.in_ok-add_numbered.ensures.ok

pub loop-blocking-preserved : goal.loop-blocking-preserved
loop-blocking-preserved c =
    touched_more c.args.blockings.now c.loop-blocking.blocking-index _ c.args.changed c.args.plan.now.plan.visits c.loop-blocking.some.items _
    c.loop-blocking-test.true c.loop-blocking.invariant c.in_ok-add_numbered-2.ensures.ok
