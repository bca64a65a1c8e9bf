use Rattle.visit_effects.proofs.Meant.{meant_live, meant_well_formed}
use Rattle.visit_effects.proofs.effects.visit_meant.Goals as goal

pub returns-clause-well_formed : goal.returns-clause-well_formed
returns-clause-well_formed c =
    rw c.first_meant.ensures.is
    (meant_well_formed c.args.airport.now c.args.visits.now c.args.moment c.args.message.now.flight c.in_ok-day.day c.requires.each)

pub returns-clause-live : goal.returns-clause-live
returns-clause-live c =
    rw c.first_meant.ensures.is (meant_live c.args.airport.now c.args.visits.now c.args.moment c.args.message.now.flight c.in_ok-day.day c.requires.each)
