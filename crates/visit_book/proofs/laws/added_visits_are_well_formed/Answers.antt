use Rattle.visit_book.proofs.Kept.{added_keeps}
use Rattle.visit_book.proofs.laws.added_visits_are_well_formed.Goals as goal

pub returns : goal.returns
returns c = record { well_formed = added_keeps }
