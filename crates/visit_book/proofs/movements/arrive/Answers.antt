use Rattle.std.proofs.Common.{◌∙◌, sym}
use Rattle.visit_book.proofs.MovesKept.{arrive_keeps}
use Rattle.visit_book.proofs.movements.arrive.Goals as goal

pub returns-in-Some-clause-well_formed : goal.returns-in-Some-clause-well_formed
returns-in-Some-clause-well_formed c =
    arrive_keeps c.args.airport.now c.args.part c.args.at c.args.stand c.args.visit.now c.in-Some.new c.arrive_of.ensures.airport c.requires.well_formed
    c.requires.live c.requires.least c.requires.most c.requires.at c.requires.stand (sym c.arrive_of.ensures.is ∙ c.in-Some.is)
