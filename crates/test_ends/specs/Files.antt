-- What an open file in memory tells.
use Rattle.std.specs.Prelude.{ℕ, Bool, List, Option, Some, None, if◌then◌else◌}
use Rattle.std.specs.Str.{bytes_eq}
use Rattle.journal_disk.specs.Calls.{MemoryHeld, disk_of}
use Rattle.system_files.specs.Files.{FileState, Lock}
use Rattle.system_files.specs.Files.Lock.{Unlocked, Shared, Exclusive, Unavailable}
use Rattle.test_ends.specs.declared.memory_file.Held.{Held}
use Rattle.test_ends.specs.declared.memory_file.Held.TheVariants.{Nothing, AmongReaders, Alone, NoLocks}

-- the lock that it or another has
abbrev pub lock_of : Held → Lock
lock_of Nothing = Unlocked
lock_of AmongReaders = Shared
lock_of Alone = Exclusive
lock_of NoLocks = Unavailable

-- its state: its disk after so many faults, its lock and that of others, and whether it was found
-- at its path and lasts there
abbrev pub told_by : MemoryHeld → ℕ → Held → Held → Bool → Bool → FileState
told_by disk faults held others found lasting = record {
  disk = record (disk_of disk) { faults = faults };
  lock = lock_of held;
  others = lock_of others;
  found = found;
  lasting = lasting;
}

-- the bytes of the one file of a folder
abbrev pub bytes_if : List ℕ → List ℕ → List ℕ → Option (List ℕ)
bytes_if kept bytes name = if bytes_eq name kept then Some bytes else None
