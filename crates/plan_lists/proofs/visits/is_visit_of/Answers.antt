use Rattle.plan_lists.specs.OfDay.{is_seen_on}
use Rattle.plan_lists.proofs.Passed.{any_more}
use Rattle.plan_lists.proofs.visits.is_visit_of.Goals as goal

pub loop-index-preserved : goal.loop-index-preserved
loop-index-preserved c =
    any_more (is_seen_on c.args.airport.now c.args.day c.args.visit.now) c.args.visit.now c.as_slice-parts.result.now c.loop-index.index _
    c.loop-index.seen c.is_seen_on-seen.result c.loop-index-test.true c.loop-index.invariant c.is_seen_on-seen.ensures.is
