-- What the program ends with.
use Rattle.std.specs.Prelude.{ℕ}
use Rattle.apron_run.specs.declared.status.Status.{Status}
use Rattle.apron_run.specs.declared.status.Status.TheVariants.{Done, Usage, FileFault, ShelfFault, ReadFault, WriteFault, DiskFault, JournalFault, SeasonFault, Cut, ListenerFault, Memory, Malformed, NotEmpty, Full, Limit, Spent}

-- the number of a status
abbrev pub exit_code : Status → ℕ
exit_code Done = 0
exit_code Usage = 2
exit_code FileFault = 3
exit_code ShelfFault = 4
exit_code ReadFault = 5
exit_code WriteFault = 6
exit_code DiskFault = 7
exit_code JournalFault = 8
exit_code SeasonFault = 9
exit_code Cut = 10
exit_code ListenerFault = 11
exit_code Memory = 12
exit_code Malformed = 13
exit_code NotEmpty = 14
exit_code Full = 15
exit_code Limit = 16
exit_code Spent = 17
