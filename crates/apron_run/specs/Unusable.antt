-- What tells why there is no journal to work on.
use Rattle.std.specs.Prelude.{ℕ, List, ◌++◌, codes, decimal}
use Rattle.hex.specs.Hex.{encode_lower}
use Rattle.journal_disk.specs.declared.fault.JournalFault.TheVariants as journal
use Rattle.history_core.specs.declared.opening.OpenFault.TheVariants as entries
use Rattle.apron_check.specs.Lines.{memory_text}
use Rattle.apron_run.specs.declared.unusable.Unusable.{Unusable}
use Rattle.apron_run.specs.declared.unusable.Unusable.TheVariants.{Journal, Entries}

-- what tells why there is no journal to work on: it isn't made or opened, and of another airport's
-- the digests that it has and those of the files; or its entries are no history
abbrev pub unusable_text : Unusable → List ℕ
unusable_text (Journal journal.DiskFault) = codes "disk fault"
unusable_text (Journal journal.NotEmpty) = codes "journal not empty"
unusable_text (Journal journal.NotAJournal) = codes "journal: not a journal"
unusable_text (Journal (journal.OtherAirport kept given)) =
    (codes "journal: other airport " ++ encode_lower kept) ++ (codes " " ++ encode_lower given)
unusable_text (Journal journal.OldFormat) = codes "journal: old format"
unusable_text (Journal (journal.BadRecord number)) = codes "journal: record " ++ decimal number
unusable_text (Journal journal.Memory) = memory_text
unusable_text (Entries (entries.BadEntry number)) =
    (codes "journal: entry " ++ decimal number) ++ codes " unreadable"
unusable_text (Entries (entries.WrongEntry number)) =
    (codes "journal: entry " ++ decimal number) ++ codes " refused"
unusable_text (Entries entries.Memory) = memory_text
