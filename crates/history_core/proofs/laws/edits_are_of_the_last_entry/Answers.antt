use Rattle.history_core.proofs.Edited.{edited_by_last}
use Rattle.history_core.proofs.laws.edits_are_of_the_last_entry.Goals as goal

pub returns : goal.returns
returns c = record { last = edited_by_last }
