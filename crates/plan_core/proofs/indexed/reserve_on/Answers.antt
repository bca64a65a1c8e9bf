use Rattle.plan_core.proofs.IndexedStands.{roomy_index, roomy_slots}
use Rattle.plan_core.proofs.indexed.reserve_on.Goals as goal

pub returns-in-Ok-clause-slots : goal.returns-in-Ok-clause-slots
returns-in-Ok-clause-slots c = roomy_slots c.args.stand c.args.index.now c.reserve.new.self c.reserve.ensures.slots c.reserve.ensures.others

pub returns-in-Ok-clause-index : goal.returns-in-Ok-clause-index
returns-in-Ok-clause-index c = roomy_index c.args.stand c.args.index.now c.reserve.new.self c.requires.index c.reserve.ensures.slots c.reserve.ensures.others
