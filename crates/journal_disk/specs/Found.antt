-- The journal that a disk has, by its format.
use Rattle.std.specs.Prelude.{ℕ, List, Option, None, Some}
use Rattle.journal_disk.specs.declared.upgrade.Found.{Found}
use Rattle.journal_disk.specs.declared.upgrade.Found.TheVariants.{New, Old}

-- the entries of a journal of format 1; none if it is of format 2
abbrev pub old_found : {D : Type 0} → Found D → Option (List (List ℕ))
old_found (New disk) = None
old_found (Old journal) = Some journal.entries

-- the disk that has it
abbrev pub disk_found : {D : Type 0} → Found D → D
disk_found (New disk) = disk
disk_found (Old journal) = journal.disk
