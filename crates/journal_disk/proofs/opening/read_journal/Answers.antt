use Rattle.std.proofs.Common.{arith}
use Rattle.journal_disk.proofs.OpenedTexts.{records_bound}
use Rattle.journal_disk.proofs.opening.read_journal.Goals as goal

pub returns-clause-within : goal.returns-clause-within
returns-clause-within g c =
    let read = c.in_ok-section.ensures.read.1.read in
    omega (arith, read.size_is, records_bound c.in_ok-section.section.records.entries.items read.sizes)
