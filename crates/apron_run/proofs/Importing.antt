-- An import into the board of a journal.
use Rattle.std.proofs.Common.{◌≡◌, ◌∙◌, ℕ, List, [], ◌∷◌, refl, ap, subst, Result}
use Rattle.std.specs.Prelude.{MatchResult}
use Rattle.apron_base.specs.Keeper.{KeeperState}
use Rattle.apron_rules.specs.declared.parts.AirportParts.{AirportParts}
use Rattle.visit_book.specs.declared.visits.NewVisit.{NewVisit}
use Rattle.history_core.specs.Board.{BoardHeld, machine_state}
use Rattle.apron_check.specs.declared.files.AirportFiles.{AirportFiles}
use Rattle.apron_run.specs.Asking.{AsksSeason, MeetsAll}
use Rattle.apron_run.specs.Import.{FindsSeason, ImportsSeason}
use Rattle.apron_run.specs.Journal.{KeepsHistory}
use Rattle.apron_run.specs.Opened.{IsOpened, Reached, opened_board}
use Rattle.apron_run.specs.Survival.{Survives}
use Rattle.apron_run.specs.World.{RunWorld}
use Rattle.apron_run.specs.declared.imported.Imported.{Imported}

-- the count of faults, while visits are met
pub all_faults : (airport : AirportParts) (visits : List NewVisit) (before after : Reached) → MeetsAll airport visits before after → after.faults ≡ before.faults
all_faults airport [] before after same = ap (λ (r : Reached). r.faults) same
all_faults airport (new ∷ visits) before after (mid, one, rest) = all_faults airport visits mid after rest ∙ one.asks.faults

-- the visits that were found were asked to be added; if none were found nothing was asked
abbrev pub AsksFound : AirportParts → Result (List NewVisit) Imported → Reached → Reached → Imported → Type 0
AsksFound airport found before after imported =
    MatchResult found (λ visits. AsksSeason airport visits before after imported) (λ why. (after ≡ before) × (imported ≡ why))

-- an import into a board that was opened
abbrev pub season_imported : {K : Type 0} (tells : K → KeeperState) (files : AirportFiles) (season : List ℕ) (before after : RunWorld) (board left : BoardHeld K) (imported : Imported)
    → IsOpened tells files before.disk board
    → ((found : Result (List NewVisit) Imported) × FindsSeason board.airport season before.shelf after.shelf found
    × AsksFound board.airport found (machine_state tells board) (machine_state tells left) imported)
    → left.airport ≡ board.airport → (tells left.keeper).faults ≡ after.disk.faults
    → KeepsHistory (record { airport = left.airport; digests = files.digests }) left.history left.at_risk after.disk
    → Survives files.digests left.history left.at_risk before.disk after.disk
    → ImportsSeason season files board.history before after imported
season_imported tells files season before after board left imported opened (found, finds, asks) same faults keeps survives =
    let airport : board.airport ≡ files.airport = opened.airport_is in
    let start : machine_state tells board ≡ opened_board files.airport board.history before.disk.faults = rw (opened.at_risk, opened.airport_is, opened.next, opened.faults) refl in
    record {
      found = found;
      finds = subst (λ (a : AirportParts). FindsSeason a season before.shelf after.shelf found) airport finds;
      left = machine_state tells left;
      asks = subst (λ (r : Reached). AsksFound files.airport found r (machine_state tells left) imported) start
          (subst (λ (a : AirportParts). AsksFound a found (machine_state tells board) (machine_state tells left) imported) airport asks);
      faults = faults;
      keeps = subst (λ (a : AirportParts). KeepsHistory (record { airport = a; digests = files.digests }) left.history left.at_risk after.disk)
          (same ∙ airport) keeps;
      survives = survives;
    }
