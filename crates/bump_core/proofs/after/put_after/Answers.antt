use Rattle.std.proofs.lemmas.List.Edits.{map_over_more}
use Rattle.bump_core.specs.Lists.{after_by}
use Rattle.bump_core.proofs.after.put_after.Goals as goal

pub loop-visit-preserved : goal.loop-visit-preserved
loop-visit-preserved c =
    rw (c.after_by.ensures.is, ← c.visit-item.is)
    (map_over_more (after_by c.args.entry c.args.new.now c.args.blockings.now) c.args.visits.now c.loop-visit.visit-items c.loop-visit.visit-index c.visit-item.result
    c.loop-visit-test.true c.loop-visit.invariant c.visit-item.is)
