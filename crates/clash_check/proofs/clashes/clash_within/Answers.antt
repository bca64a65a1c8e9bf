use Rattle.std.proofs.Common.{refl, Some, None}
use Rattle.clash_check.proofs.Meetings.{within_is}
use Rattle.clash_check.proofs.clashes.clash_within.Goals as goal

pub returns-in-Some : goal.returns-in-Some
returns-in-Some c = record { is = rw (within_is c.args.airport.now c.args.slot.now c.args.other.now c.args.from c.args.end (Some c.in-Some.at) c.in-Some.ensures.first) refl }

pub returns-in-None : goal.returns-in-None
returns-in-None c = record { is = rw (within_is c.args.airport.now c.args.slot.now c.args.other.now c.args.from c.args.end None c.in-None.ensures.first) refl }
