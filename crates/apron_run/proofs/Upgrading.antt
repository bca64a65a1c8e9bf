-- How a run of the word `upgrade` ends that is valid.
use Rattle.std.proofs.Common.{◌≡◌, ◌∙◌, ℕ, List, inl, inr, refl, sym, subst, Option, None, Some, Result, Ok, Err}
use Rattle.std.specs.Prelude.{IfSome}
use Rattle.apron_base.specs.Counts.{Rose}
use Rattle.journal_disk.specs.Disk.{DiskState}
use Rattle.journal_disk.specs.Header.{old_opening_of}
use Rattle.journal_disk.specs.declared.fault.JournalFault.{JournalFault}
use Rattle.journal_disk.specs.declared.fault.JournalFault.TheVariants as journal
use Rattle.history_core.specs.declared.opening.OpenFault.TheVariants as entries
use Rattle.apron_check.specs.declared.files.AirportFiles.{AirportFiles}
use Rattle.apron_run.specs.Converting.{CannotConvert, Converts, Spelt}
use Rattle.apron_run.specs.End.{status_of}
use Rattle.apron_run.specs.Upgrade.{AtUpgrade, CanUpgrade, NotUpgraded}
use Rattle.apron_run.specs.World.{RunWorld}
use Rattle.apron_run.specs.declared.end.End.{End}
use Rattle.apron_run.specs.declared.end.End.TheVariants.{Printed, Unusable as Unworkable}
use Rattle.apron_run.specs.declared.status.Status.TheVariants.{Memory}
use Rattle.apron_run.specs.declared.unusable.Unusable.{Unusable}
use Rattle.apron_run.specs.declared.unusable.Unusable.TheVariants.{Journal, Entries}
use Rattle.apron_run.proofs.Completing.{Well}
use Rattle.apron_run.proofs.Converts.{none_stops}
use Rattle.apron_run.proofs.Valid.{both_told}

module _ (made : AirportFiles) (before after : DiskState) (can : CanUpgrade made before) where
  -- the disk has one journal of format 1 or 2
  opens_once : {P : Type 0} (other : Result (Option (List (List ℕ))) JournalFault) → IfSome before.contents (λ bytes. old_opening_of made.digests bytes ≡ other)
      → (Ok can.found ≡ other → P) → P
  opens_once other opens go =
      let (bytes, one, two) = both_told before.contents (λ bytes. old_opening_of made.digests bytes ≡ Ok can.found)
      (λ bytes. old_opening_of made.digests bytes ≡ other) can.told can.opens opens in
      go (sym one ∙ two)

  opens_well : (fault : JournalFault) → IfSome before.contents (λ bytes. old_opening_of made.digests bytes ≡ Err fault) → ⊥
  opens_well fault fails = opens_once (Err fault) fails (λ both. cc)

  -- its entries are converted
  converts_well : (found : Option (List (List ℕ))) (old : List (List ℕ)) (number : ℕ) → ◌≡◌ {A = Result (Option (List (List ℕ))) JournalFault} (Ok found) (Ok (Some old))
      → IfSome found (λ old. (new : List (List ℕ)) × Converts made.airport old new) → CannotConvert made.airport old (entries.BadEntry number) → ⊥
  converts_well None old number is converts stops = absurd cc
  converts_well (Some found) old number is (new, converts) (front, some, back, bytes, are, number_is, before_it, none) =
      let same : found ≡ old = cc in
      let (history, spelt, texts) = converts in
      none_stops made.airport front bytes back history (subst (λ (es : List (List ℕ)). Spelt made.airport es history) (same ∙ are) spelt) none

  reads_well : (number : ℕ) (old : List (List ℕ)) → IfSome before.contents (λ bytes. old_opening_of made.digests bytes ≡ Ok (Some old))
      → CannotConvert made.airport old (entries.BadEntry number) → ⊥
  reads_well number old was stops = opens_once (Ok (Some old)) was (λ both. converts_well can.found old number both can.converts stops)

  -- if the disk doesn't fail, it is not upgraded only if there is no memory
  failed_wants : (why : Unusable) → NotUpgraded made before after why → ¬ (Rose before.faults after.faults) → status_of (Unworkable why) ≡ Memory
  failed_wants (Journal journal.DiskFault) (fails, leaves) disk = absurd (disk fails.1)
  failed_wants (Journal journal.NotEmpty) fails disk = absurd fails
  failed_wants (Journal journal.OldFormat) fails disk = absurd fails
  failed_wants (Journal journal.Memory) fails disk = refl
  failed_wants (Journal fault) (unwritten, fails) disk = absurd (opens_well fault fails)
  failed_wants (Entries (entries.BadEntry number)) (unwritten, old, was, stops) disk = absurd (reads_well number old was stops)
  failed_wants (Entries (entries.WrongEntry number)) (unwritten, old, was, wrong) disk = absurd wrong
  failed_wants (Entries entries.Memory) fails disk = refl

pub upgrade_well : (made : AirportFiles) (before after : RunWorld) (end : End) → CanUpgrade made before.disk → ¬ (Rose before.disk.faults after.disk.faults)
    → AtUpgrade made before after end → Well (status_of end)
upgrade_well made before after (Printed text) can disk at = inl refl
upgrade_well made before after (Unworkable why) can disk at = inr (failed_wants made before.disk after.disk can why at.uses disk)
upgrade_well made before after end can disk at = absurd at
