-- How a run ended: its status, and the line that tells it.
use Rattle.std.specs.Prelude.{◌≡◌, ℕ, List, [], ◌∷◌, ◌++◌, Option, None, Some, MatchOption}
use Rattle.apron_base.specs.Ends.{SinkState}
use Rattle.apron_base.specs.declared.outside.Outcome.TheVariants as came
use Rattle.journal_disk.specs.declared.fault.JournalFault.TheVariants as journal
use Rattle.history_core.specs.declared.opening.OpenFault.TheVariants as entries
use Rattle.apron_check.specs.Lines.{fault_line}
use Rattle.apron_check.specs.declared.faults.FilesFault.TheVariants as files
use Rattle.apron_run.specs.Imported.{imported_text}
use Rattle.apron_run.specs.Print.{Writes, listener_line, usage_text}
use Rattle.apron_run.specs.Statuses.{exit_code}
use Rattle.apron_run.specs.Unusable.{unusable_text}
use Rattle.apron_run.specs.World.{Untouched, World}
use Rattle.apron_run.specs.declared.end.End.{End}
use Rattle.apron_run.specs.declared.end.End.TheVariants as ended
use Rattle.apron_run.specs.declared.end.ServeEnd.TheVariants as served
use Rattle.apron_run.specs.declared.imported.Imported.TheVariants as import
use Rattle.apron_run.specs.declared.status.Status.{Status}
use Rattle.apron_run.specs.declared.status.Status.TheVariants.{Done, Usage, FileFault, ShelfFault, ReadFault, WriteFault, DiskFault, JournalFault, SeasonFault, Cut, ListenerFault, Memory, Malformed, NotEmpty, Full, Limit, Spent}
use Rattle.apron_run.specs.declared.unusable.Unusable.TheVariants.{Journal, Entries}

-- it ended so, and nothing of the outside was used
abbrev pub EndsUntouched : {In Out : Type 0} → End → World In Out → World In Out → End → Type 0
EndsUntouched so before after end = (end ≡ so) × Untouched before after

-- its status
abbrev pub status_of : End → Status
status_of (ended.Printed text) = Done
status_of (ended.Served came.Ended) = Done
status_of (ended.Served came.Closed) = Done
status_of (ended.Served came.Cut) = Cut
status_of (ended.Served came.Malformed) = Malformed
status_of (ended.Served came.Limit) = Limit
status_of (ended.Served came.ReadFault) = ReadFault
status_of (ended.Served came.WriteFault) = WriteFault
status_of (ended.Served came.Spent) = Spent
status_of (ended.Served came.Memory) = Memory
status_of (ended.Attended served.Done) = Done
status_of (ended.Attended served.ListenerFault) = ListenerFault
status_of (ended.Attended served.Missed) = Memory
status_of (ended.Imported (import.Whole added present)) = Done
status_of (ended.Imported import.ShelfFault) = ShelfFault
status_of (ended.Imported import.TooLong) = SeasonFault
status_of (ended.Imported (import.Refused number)) = SeasonFault
status_of (ended.Imported (import.Full number)) = Full
status_of (ended.Imported import.DiskFault) = DiskFault
status_of (ended.Imported import.Spent) = Spent
status_of (ended.Imported import.Memory) = Memory
status_of (ended.Faulty files.ShelfFault) = ShelfFault
status_of (ended.Faulty files.Memory) = Memory
status_of (ended.Faulty fault) = FileFault
status_of (ended.Unusable (Journal journal.DiskFault)) = DiskFault
status_of (ended.Unusable (Journal journal.NotEmpty)) = NotEmpty
status_of (ended.Unusable (Journal journal.Memory)) = Memory
status_of (ended.Unusable (Entries entries.Memory)) = Memory
status_of (ended.Unusable why) = JournalFault
status_of ended.Memory = Memory
status_of ended.Unasked = Usage

-- its status if the sink fails at its line: the same, unless all was done
abbrev pub cut_status_of : End → Status
cut_status_of (ended.Printed text) = WriteFault
cut_status_of (ended.Imported (import.Whole added present)) = WriteFault
cut_status_of end = status_of end

-- the line that tells it, if one does
abbrev pub line_of : End → Option (List ℕ)
line_of (ended.Printed text) = Some text
line_of (ended.Served came.Memory) = Some (fault_line files.Memory)
line_of (ended.Served outcome) = None
line_of (ended.Attended served.Done) = None
line_of (ended.Attended served.ListenerFault) = Some listener_line
line_of (ended.Attended served.Missed) = Some (fault_line files.Memory)
line_of (ended.Imported import.Spent) = None
line_of (ended.Imported how) = Some (imported_text how ++ 10 ∷ [])
line_of (ended.Faulty fault) = Some (fault_line fault)
line_of (ended.Unusable why) = Some (unusable_text why ++ 10 ∷ [])
line_of ended.Memory = Some (fault_line files.Memory)
line_of ended.Unasked = Some usage_text

-- its line was written, if there is one, and the run has its status
abbrev pub TellsEnd : End → SinkState → SinkState → Status → Type 0
TellsEnd end before after status = MatchOption (line_of end)
    ((after ≡ before) × (status ≡ status_of end))
    (λ line. Writes line (status_of end) (cut_status_of end) before after status)

-- what came of a run or of serving, by what it does from one moment to the one at which no more
-- than the last line is to be written: this was done, then the line of its end was written, and the
-- number is that of its status
pub record EndsAs {In Out : Type 0} (Does : World In Out → World In Out → End → Type 0)
    (before after : World In Out) (code : ℕ) : Type 0 where
  pub status : Status
  pub code_is : code ≡ exit_code status
  pub written : SinkState
  pub end : End
  pub does : Does before (record after { sink = written }) end
  pub tells : TellsEnd end written after.sink status
