use Rattle.std.proofs.Common.{sym}
use Rattle.plan_core.specs.Working.{is_from}
use Rattle.plan_core.proofs.ByNumber.{place_of, no_place_is}
use Rattle.plan_core.proofs.edits.count_below.Goals as goal

pub returns-in-Some-clause-count : goal.returns-in-Some-clause-count
returns-in-Some-clause-count c = (place_of (is_from c.args.number) c.args.visits.now c.in-Some.place (sym c.in-Some.ensures.place)).0

pub returns-in-None-clause-count : goal.returns-in-None-clause-count
returns-in-None-clause-count c = sym (no_place_is (is_from c.args.number) c.args.visits.now (sym c.in-None.ensures.place))
