-- A board that was opened over the journal of an airport.
use Rattle.std.specs.Prelude.{◌≡◌, ℕ, List, length, None, IfSome, Ok}
use Rattle.apron_base.specs.Keeper.{KeeperState}
use Rattle.apron_base.specs.Machine.{MachineState}
use Rattle.apron_rules.specs.declared.parts.AirportParts.{AirportParts}
use Rattle.desk_asks.specs.declared.asks.Entry.{Entry}
use Rattle.history_core.specs.Board.{BoardHeld}
use Rattle.history_core.specs.Opening.{next_after}
use Rattle.journal_disk.specs.Disk.{DiskState}
use Rattle.journal_disk.specs.Extent.{JournalHeld, keeper_of}
use Rattle.journal_disk.specs.Header.{opening_of}
use Rattle.apron_check.specs.declared.files.AirportFiles.{AirportFiles}
use Rattle.apron_run.specs.Journal.{OpensTo}

-- what a board has come to
abbrev pub Reached : Type 0
Reached = MachineState Entry AirportParts

-- a board that was opened with this history, after which no entry is at risk, over a disk that had
-- failed this often
abbrev pub opened_board : AirportParts → List Entry → ℕ → Reached
opened_board airport opened faults = record {
  fixed = airport;
  history = opened;
  at_risk = None;
  next = next_after opened;
  faults = faults;
}

-- what a journal tells as a keeper, by what its disk tells
abbrev pub journal_tells : {D : Type 0} → (D → DiskState) → JournalHeld D → KeeperState
journal_tells state held = keeper_of held.extent (state held.disk)

-- a keeper over the disk's journal of the files of these digests has these entries, which the disk
-- opens to; no entry is at risk, and so far no call of the disk has failed
pub record HasEntries (digests : List ℕ) (disk : DiskState) (keeper : KeeperState)
    (entries : List (List ℕ)) : Type 0 where
  pub opening : IfSome disk.contents (λ bytes. opening_of digests bytes ≡ Ok entries)
  pub kept : IfSome keeper.entries (λ kept. kept ≡ entries)
  pub number : keeper.number ≡ length entries
  pub at_risk : keeper.at_risk ≡ None
  pub faults : keeper.faults ≡ disk.faults

-- a board was opened over the journal of these files that is on the disk; no entry is at risk, and
-- so far no call of the disk has failed
pub record IsOpened {K : Type 0} (tells : K → KeeperState) (files : AirportFiles) (disk : DiskState)
    (board : BoardHeld K) : Type 0 where
  pub airport_is : board.airport ≡ files.airport
  pub opens : OpensTo files disk board.history
  pub next : board.next ≡ next_after board.history
  pub at_risk : board.at_risk ≡ None
  pub faults : (tells board.keeper).faults ≡ disk.faults
