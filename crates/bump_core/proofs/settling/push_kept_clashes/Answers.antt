use Rattle.bump_core.specs.Lists.{kept_clash_at}
use Rattle.bump_core.proofs.Grow.{given_behind}
use Rattle.bump_core.proofs.settling.push_kept_clashes.Goals as goal

pub loop-clash-preserved : goal.loop-clash-preserved
loop-clash-preserved c =
    given_behind (kept_clash_at c.args.airport.now c.args.plan.now.plan.visits c.args.own.now) c.args.mets.now c.args.clashes.now c.loop-clash.clash-index _ c.loop-clash.mets _ _
    c.loop-clash-test.true c.loop-clash.invariant c.kept_clash_at.ensures.is c.in_ok-push_kept_clash.ensures.ok
