-- What a crash may leave of a journal in an upgrade.
use Rattle.std.specs.Prelude.{◌≤◌, ℕ, List, length}
use Rattle.journal_disk.specs.Disk.{DiskState, IfExposed, TellsAlike}
use Rattle.journal_disk.specs.Entries.{records}
use Rattle.journal_disk.specs.Switch.{IsEither}
use Rattle.apron_run.specs.Survival.{EachImageFrom}

-- What a crash may leave of a journal while it is upgraded. Up to the moment at which it was open:
-- what it could leave when the call began. From then on: the old entries in format 1, or the new
-- ones in format 2, after the header and the old section, which stay but for the format byte.
pub record LeavesEither (old new : List (List ℕ)) (before after : DiskState) : Type 0 where
  pub tells : TellsAlike before after
  pub moment : ℕ
  pub order : (before.moment ≤ moment) × (moment ≤ after.moment)
  pub earlier : EachImageFrom before.moment moment after (before.images before.moment)
  pub later : IfExposed before (λ bytes.
      EachImageFrom moment after.moment after (IsEither (length (records old)) old new bytes))
