use Rattle.std.proofs.Common.{◌∙◌, ap}
use Rattle.visit_book.proofs.Least.{least_at_some}
use Rattle.visit_book.proofs.changes.least_of.Goals as goal

pub returns-clause-some : goal.returns-clause-some
returns-clause-some c =
    rw (c.as_slice.ensures.items ∙ ap (λ airport. airport.types) c.parts.ensures.value)
    (least_at_some c.args.airport.now c.args.kind c.index-as_slice-kind.result c.parts.ensures.airport c.requires.kind)
