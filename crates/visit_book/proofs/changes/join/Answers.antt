use Rattle.std.proofs.Common.{◌∙◌, sym}
use Rattle.visit_book.proofs.Kept.{join_keeps}
use Rattle.visit_book.proofs.changes.join.Goals as goal

pub returns-in-Some-clause-well_formed : goal.returns-in-Some-clause-well_formed
returns-in-Some-clause-well_formed c =
    λ airport h. join_keeps airport c.args.part c.args.visit.now c.in-Some.joined h (sym c.join_of.ensures.is ∙ c.in-Some.is)
