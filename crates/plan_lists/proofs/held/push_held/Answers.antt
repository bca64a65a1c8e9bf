use Rattle.std.proofs.Common.{refl}
use Rattle.plan_lists.specs.Held.{holds_on}
use Rattle.plan_lists.proofs.Passed.{passed_more}
use Rattle.plan_lists.proofs.held.push_held.Goals as goal

pub loop-index-preserved : goal.loop-index-preserved
loop-index-preserved c =
    passed_more (holds_on c.args.airport.now c.args.day c.args.visit.now) c.args.visit.now c.as_slice-parts.result.now c.loop-index.index _
    c.args.rows.now c.loop-index.rows c.push_if.new.list c.row.result c.holds_on-held.result c.loop-index-test.true c.loop-index.invariant c.row.ensures.is
    (rw (c.holds_on-held.ensures.is, c.row.ensures.is) refl) c.in_ok-push_if.ensures.ok
