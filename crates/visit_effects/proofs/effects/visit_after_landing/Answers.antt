use Rattle.visit_effects.proofs.Meant.{planned_of}
use Rattle.visit_effects.proofs.effects.visit_after_landing.Goals as goal

pub push-requires-clause-planned : goal.push-requires-clause-planned
push-requires-clause-planned c = planned_of c.args.airport.now c.args.visit.now 1 c.requires.well_formed c.if-visit.false
