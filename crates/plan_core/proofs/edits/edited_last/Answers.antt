use Rattle.std.proofs.lemmas.List.Edits.{map_over_more}
use Rattle.plan_core.specs.Rebase.{edited_last}
use Rattle.plan_core.proofs.edits.edited_last.Goals as goal

pub loop-visit-preserved : goal.loop-visit-preserved
loop-visit-preserved c =
    rw (← c.visit-item.is)
    (map_over_more (edited_last c.args.version) c.args.visits.now c.loop-visit.visit-items c.loop-visit.visit-index c.visit-item.result c.loop-visit-test.true c.loop-visit.invariant c.visit-item.is)
