-- What the word `import` does: the visits of a season file are added to the plan in a journal.
use Rattle.std.specs.Prelude.{◌≡◌, ◌<◌, ◌≤◌, ◌+◌, ℕ, Bool, true, false, List, length, Option, IfSome, MatchOption, MatchResult, Result, Ok, Err}
use Rattle.apron_base.specs.Counts.{Counts, RoseBy}
use Rattle.apron_base.specs.Shelf.{ShelfState}
use Rattle.apron_rules.specs.declared.parts.AirportParts.{AirportParts}
use Rattle.visit_book.specs.declared.visits.NewVisit.{NewVisit}
use Rattle.season_files.specs.Seasons.{season_in}
use Rattle.desk_asks.specs.declared.asks.Entry.{Entry}
use Rattle.apron_check.specs.declared.files.AirportFiles.{AirportFiles}
use Rattle.apron_run.specs.Asking.{AsksSeason}
use Rattle.apron_run.specs.Opened.{Reached, opened_board}
use Rattle.apron_run.specs.Journal.{KeepsHistory, WithJournal}
use Rattle.apron_run.specs.Survival.{Survives}
use Rattle.apron_run.specs.World.{RunWorld}
use Rattle.apron_run.specs.declared.end.End.{End}
use Rattle.apron_run.specs.declared.end.End.TheVariants as ended
use Rattle.apron_run.specs.declared.imported.Imported.{Imported}
use Rattle.apron_run.specs.declared.imported.Imported.TheVariants.{ShelfFault, TooLong, Refused, Memory}

-- how many bytes a season file has at most: 16 MiB
abbrev pub most_season : ℕ
most_season = 16777216

-- a season file that isn't too long tells these visits at the airport, or this record of it is the
-- first that is refused
pub record Tells (airport : AirportParts) (file : Option (List ℕ))
    (season : Result (List NewVisit) ℕ) : Type 0 where
  pub bytes : List ℕ
  pub told : IfSome file (λ kept. bytes ≡ kept)
  pub short : length bytes ≤ most_season
  pub season_is : season_in airport bytes ≡ season

-- what is found in the season file of a name: its visits, or why none are asked. A file that is too
-- long has more than the most bytes; if the shelf doesn't tell it, more were read. Running out of
-- memory needs no cause; a failing shelf has its count of faults
abbrev pub HasSeasonCause : AirportParts → List ℕ → ShelfState → ShelfState
    → Result (List NewVisit) Imported → Type 0
HasSeasonCause airport season before after (Ok visits) =
    Tells airport (before.file season) (Ok visits)
HasSeasonCause airport season before after (Err (Refused number)) =
    Tells airport (before.file season) (Err number)
HasSeasonCause airport season before after (Err TooLong) =
    MatchOption (before.file season) (RoseBy (most_season + 1) before.read after.read)
    (λ kept. most_season < length kept)
HasSeasonCause airport season before after (Err ShelfFault) = Unit {0}
HasSeasonCause airport season before after (Err Memory) = Unit {0}
HasSeasonCause airport season before after (Err imported) = ⊥

-- the shelf failed
abbrev pub is_season_shelf_fault : Result (List NewVisit) Imported → Bool
is_season_shelf_fault (Err ShelfFault) = true
is_season_shelf_fault found = false

-- what is found in the season file of a name, and what that does to the shelf: its files stay, and
-- it fails only if the fault says so
pub record FindsSeason (airport : AirportParts) (season : List ℕ) (before after : ShelfState)
    (found : Result (List NewVisit) Imported) : Type 0 where
  pub cause : HasSeasonCause airport season before after found
  pub counts : Counts (is_season_shelf_fault found) before.faults after.faults
  pub more : before.read ≤ after.read
  pub kept : (name : List ℕ) → after.file name ≡ before.file name

-- One import: it began with the opened history, asked for the visits that it found in the season
-- file, if any, with call numbers from one above the last entry's on, and left the disk with the
-- history as it then was, which survives a crash.
pub record ImportsSeason (season : List ℕ) (files : AirportFiles) (opened : List Entry)
    (before after : RunWorld) (imported : Imported) : Type 0 where
  pub found : Result (List NewVisit) Imported
  pub finds : FindsSeason files.airport season before.shelf after.shelf found
  pub left : Reached
  pub asks : MatchResult found
      (λ visits. AsksSeason files.airport visits
      (opened_board files.airport opened before.disk.faults) left imported)
      (λ why. (left ≡ opened_board files.airport opened before.disk.faults) × (imported ≡ why))
  pub faults : left.faults ≡ after.disk.faults
  pub keeps : KeepsHistory files left.history left.at_risk after.disk
  pub survives : Survives files.digests left.history left.at_risk before.disk after.disk

-- the season is imported into the opened history
abbrev pub TakesSeason : List ℕ → AirportFiles → List Entry → RunWorld → RunWorld → End → Type 0
TakesSeason season files opened before after (ended.Imported how) =
    (after.source ≡ before.source) × (after.sink ≡ before.sink)
    × ImportsSeason season files opened before after how
TakesSeason season files opened before after end = ⊥

-- what the word does at these files: an import into their journal
abbrev pub AtSeason : List ℕ → AirportFiles → RunWorld → RunWorld → End → Type 0
AtSeason season = WithJournal (TakesSeason season)
