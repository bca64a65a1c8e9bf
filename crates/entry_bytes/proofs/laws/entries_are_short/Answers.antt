use Rattle.entry_bytes.proofs.Lengths.{length-entry}
use Rattle.entry_bytes.proofs.laws.entries_are_short.Goals as goal

pub returns : goal.returns
returns c = record { short = λ entry h. length-entry entry h.fits h.command }
