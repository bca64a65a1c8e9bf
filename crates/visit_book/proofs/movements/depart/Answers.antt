use Rattle.std.proofs.Common.{◌∙◌, sym}
use Rattle.visit_book.proofs.MovesKept.{depart_keeps}
use Rattle.visit_book.proofs.movements.depart.Goals as goal

pub returns-in-Some-clause-well_formed : goal.returns-in-Some-clause-well_formed
returns-in-Some-clause-well_formed c =
    λ airport h early. depart_keeps airport c.args.at c.args.visit.now c.in-Some.new h early (sym c.depart_of.ensures.is ∙ c.in-Some.is)
