use Rattle.std.proofs.Common.{◌∙◌, ap}
use Rattle.visit_book.specs.Changes.{with_parts}
use Rattle.visit_book.proofs.Leaving.{expected_made}
use Rattle.visit_book.proofs.MovesKept.{estimate_off_keeps}
use Rattle.visit_book.proofs.movements.estimate_off.Goals as goal

pub returns-clause-is : goal.returns-clause-is
returns-clause-is c =
    let parts = expected_made c.max-end.result c.least_of-least.result c.args.at c.args.visit.now.parts c.as_slice-parts.result.now c.parts_ended.result
    c.as_slice-parts.ensures.is c.requires.well_formed.some c.max-end.ensures c.parts_ended.ensures.is in
    c.with_parts.ensures.is ∙ ap (with_parts c.args.visit.now) (rw c.least_of-least.ensures.is at parts)

pub returns-clause-well_formed : goal.returns-clause-well_formed
returns-clause-well_formed c =
    rw (returns-clause-is c)
    (estimate_off_keeps c.args.airport.now c.args.at c.args.visit.now c.least_of-least.ensures.airport c.requires.well_formed c.requires.at)
