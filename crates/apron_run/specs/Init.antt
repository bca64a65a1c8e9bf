-- What the word `init` does: an empty journal for the airport of two files.
use Rattle.std.specs.Prelude.{◌≡◌, ◌≢◌, ℕ, List, length, false, true, Some, IfSome}
use Rattle.apron_base.specs.Counts.{Counts}
use Rattle.journal_disk.specs.Disk.{DiskState, IfExposed, IsSafe, Stays}
use Rattle.journal_disk.specs.Header.{empty_journal}
use Rattle.journal_disk.specs.declared.fault.JournalFault.TheVariants as journal
use Rattle.apron_check.specs.declared.files.AirportFiles.{AirportFiles}
use Rattle.apron_run.specs.Print.{made_text}
use Rattle.apron_run.specs.World.{OnDisk, Unwritten, RunWorld}
use Rattle.apron_run.specs.declared.end.End.{End}
use Rattle.apron_run.specs.declared.end.End.TheVariants as ended
use Rattle.apron_run.specs.declared.unusable.Unusable.TheVariants.{Journal}

-- the disk was empty, and is now the journal with no entry of the files of these digests, which is
-- all that a crash may leave
pub record IsJournalMade (digests : List ℕ) (before after : DiskState) : Type 0 where
  pub empty : IfSome before.contents (λ bytes. length bytes ≡ 0)
  pub reads : IfSome before.contents (λ _. after.contents ≡ Some (empty_journal digests))
  pub safe : IfExposed before (λ _. IsSafe (empty_journal digests) after)
  pub counts : Counts false before.faults after.faults

-- what the word does at these files: a journal was made of them; or the disk failed, and if it had
-- bytes nothing was written; or it had bytes, and has them still
abbrev pub AtInit : AirportFiles → RunWorld → RunWorld → End → Type 0
AtInit files before after (ended.Printed text) = (text ≡ made_text)
    × OnDisk (IsJournalMade files.digests) before after
AtInit files before after (ended.Unusable (Journal journal.DiskFault)) = OnDisk (λ old new.
    IfSome old.contents (λ bytes. length bytes ≢ 0 → Stays old new)
    × Counts true old.faults new.faults) before after
AtInit files before after (ended.Unusable (Journal journal.NotEmpty)) = OnDisk (λ old new.
    IfSome old.contents (λ bytes. length bytes ≢ 0) × Unwritten old new) before after
AtInit files before after end = ⊥
