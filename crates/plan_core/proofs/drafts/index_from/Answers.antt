use Rattle.std.proofs.Common.{◌∙◌, sym}
use Rattle.plan_core.proofs.DraftList.{indexed_more}
use Rattle.plan_core.proofs.Results.{not_err}
use Rattle.plan_core.proofs.drafts.index_from.Goals as goal

pub loop-place-preserved : goal.loop-place-preserved
loop-place-preserved c =
    indexed_more c.loop-place.versions c.insert.new.self c.args.drafts.now c.loop-place.place c.index-drafts-place.result c.loop-place.invariant
    c.loop-place-test.true c.index-drafts-place.is
    (not_err c.insert.result (sym c.is_err.ensures.value ∙ c.if-is_err.false) c.insert.ensures.updates).0
