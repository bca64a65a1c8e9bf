-- Why a run ends with the status of an end that failed.
use Rattle.std.specs.Prelude.{◌≡◌, ◌≢◌, ℕ, true}
use Rattle.apron_base.specs.Counts.{Rose}
use Rattle.apron_base.specs.Ends.{SinkState, SourceState}
use Rattle.apron_base.specs.Shelf.{ShelfState}
use Rattle.journal_disk.specs.Disk.{DiskState}
use Rattle.apron_run.specs.Statuses.{exit_code}
use Rattle.apron_run.specs.Words.{Subcommand, uses_disk, uses_shelf, uses_source}
use Rattle.apron_run.specs.World.{RunWorld, run_world}
use Rattle.apron_run.specs.declared.status.Status.TheVariants.{ShelfFault, ReadFault, WriteFault, DiskFault}

-- A run ends with the status of the shelf, the source, the sink or the disk only if its count of
-- faults rose in the run and the run uses it. Every run uses the sink.
pub record FaultsHaveCause (asked : Subcommand) (before after : RunWorld) (code : ℕ) : Type 0 where
  pub shelf : code ≡ exit_code ShelfFault
      → (uses_shelf asked ≡ true) × Rose before.shelf.faults after.shelf.faults
  pub source : code ≡ exit_code ReadFault
      → (uses_source asked code ≡ true) × Rose before.source.faults after.source.faults
  pub sink : code ≡ exit_code WriteFault → Rose before.sink.faults after.sink.faults
  pub disk : code ≡ exit_code DiskFault
      → (uses_disk asked code ≡ true) × Rose before.disk.faults after.disk.faults

-- a run whose faults have a cause, and whose shelf, source and sink count none, ends with none of
-- their statuses, for disks of any kind
abbrev pub NoFaultIsTold : {D : Type 0} → (D → DiskState) → Type 0
NoFaultIsTold {D} state =
    (asked : Subcommand) (shelf : ShelfState) (source : SourceState) (sink : SinkState) (disk : D)
    (now : ShelfState) (read : SourceState) (written : SinkState) (left : D) (code : ℕ)
    → FaultsHaveCause asked (run_world shelf source sink (state disk))
    (run_world now read written (state left)) code
    → now.faults ≡ 0 → read.faults ≡ 0 → written.faults ≡ 0
    → (code ≢ exit_code ShelfFault) × (code ≢ exit_code ReadFault) × (code ≢ exit_code WriteFault)
