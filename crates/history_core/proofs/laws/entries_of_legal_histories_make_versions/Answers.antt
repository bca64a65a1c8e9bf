use Rattle.history_core.proofs.Legal.{legal_counted, version_entry}
use Rattle.history_core.proofs.laws.entries_of_legal_histories_make_versions.Goals as goal

pub returns : goal.returns
returns c = record { counted = legal_counted; made = version_entry }
