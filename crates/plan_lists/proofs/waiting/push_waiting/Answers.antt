use Rattle.std.proofs.Common.{refl}
use Rattle.plan_lists.specs.Unplaced.{is_unplaced_row, with_rank}
use Rattle.plan_lists.proofs.Passed.{mapped_more}
use Rattle.plan_lists.proofs.waiting.push_waiting.Goals as goal

pub loop-index-preserved : goal.loop-index-preserved
loop-index-preserved c =
    mapped_more (with_rank c.args.visit.now) is_unplaced_row c.args.visit.now c.as_slice-own.result.now c.loop-index.index _
    c.args.parts.now.items c.loop-index.parts.items c.push_waiting_if.new.parts.items c.row.result c.with_rank.result (is_unplaced_row c.with_rank.result.row)
    c.loop-index-test.true c.loop-index.invariant c.row.ensures.is c.with_rank.ensures.is (rw c.with_rank.ensures.is refl) c.in_ok-push_waiting_if.ensures.ok
