use Rattle.std.proofs.Common.{◌∙◌, sym}
use Rattle.visit_book.proofs.Kept.{cut_keeps}
use Rattle.visit_book.proofs.changes.cut.Goals as goal

pub returns-in-Some-clause-well_formed : goal.returns-in-Some-clause-well_formed
returns-in-Some-clause-well_formed c =
    cut_keeps c.args.airport.now c.args.part c.args.at c.args.visit.now c.in-Some.cut c.cut_of.ensures.airport c.requires.well_formed
    (sym c.cut_of.ensures.is ∙ c.in-Some.is)
