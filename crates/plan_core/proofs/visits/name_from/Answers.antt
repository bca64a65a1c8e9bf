use Rattle.std.proofs.Common.{◌∙◌, sym}
use Rattle.plan_core.proofs.Names.{named_more}
use Rattle.plan_core.proofs.Results.{not_err}
use Rattle.plan_core.proofs.visits.name_from.Goals as goal

pub loop-place-preserved : goal.loop-place-preserved
loop-place-preserved c =
    named_more c.loop-place.places c.insert.new.self c.args.visits.now c.loop-place.place c.index-visits-place.result c.loop-place.invariant
    c.loop-place-test.true c.index-visits-place.is
    (not_err c.insert.result (sym c.is_err.ensures.value ∙ c.if-is_err.false) c.insert.ensures.updates).0
