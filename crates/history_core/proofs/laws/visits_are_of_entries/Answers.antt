use Rattle.history_core.proofs.Added.{visits_added}
use Rattle.history_core.proofs.laws.visits_are_of_entries.Goals as goal

pub returns : goal.returns
returns c = record { added = visits_added }
