use Rattle.entry_bytes.proofs.EntriesSpelt.{entries_are_different}
use Rattle.entry_bytes.proofs.FormerSpelt.{former_entries_are_different}
use Rattle.entry_bytes.proofs.laws.entries_differ.Goals as goal

pub returns : goal.returns
returns c = record { differ = entries_are_different; former = former_entries_are_different }
