use Rattle.history_core.proofs.Drafts.{drafts_made}
use Rattle.history_core.proofs.laws.drafts_are_of_entries.Goals as goal

pub returns : goal.returns
returns c = record { made = drafts_made }
