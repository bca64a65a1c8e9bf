-- The visits that a text gives, or its first refused record.
use Rattle.std.specs.Prelude.{◌≡◌, ℕ, List, Option, Some, None, Result, Ok, Err, if◌then◌else◌}
use Rattle.apron_rules.specs.declared.parts.AirportParts.{AirportParts}
use Rattle.csv.specs.declared.parser.State.{State}
use Rattle.csv_records.specs.Tables.{are_fields, rows_left, table_in, table_left}
use Rattle.visit_book.specs.declared.visits.NewVisit.{NewVisit}
use Rattle.season_files.specs.declared.faults.SeasonFault.{SeasonFault}
use Rattle.season_files.specs.declared.faults.SeasonFault.TheVariants.{BadRow, Memory}
use Rattle.season_files.specs.Records.{visit_of_fields}
use Rattle.season_files.specs.Texts.{columns}

-- behind a header of these columns each record gives a visit
abbrev pub visits_after : AirportParts → List (List ℕ) → Option (List (List ℕ) → Option NewVisit)
visits_after airport header =
    if are_fields header columns then Some (visit_of_fields airport) else None

-- the visits of a text in order of its records, or the number of the first record that is refused,
-- counted from 1 with the header
abbrev pub season_in : AirportParts → List ℕ → Result (List NewVisit) ℕ
season_in airport text = table_in (visits_after airport) text

-- the same of at most this many records, from a state of the reader and the bytes that are left
abbrev pub season_left : AirportParts → ℕ → State → List ℕ → Result (List NewVisit) ℕ
season_left airport turns s left = table_left (visits_after airport) turns s left

-- the visits after the header, from such a state; the first record is the k-th
abbrev pub visits_left : AirportParts → ℕ → ℕ → State → List ℕ → Result (List NewVisit) ℕ
visits_left airport k turns s left = rows_left (visit_of_fields airport) k turns s left

-- the fault is that of the text, unless memory ran out
abbrev pub RefusesSeason : SeasonFault → Result (List NewVisit) ℕ → Type 0
RefusesSeason (BadRow k) told = told ≡ Err k
RefusesSeason Memory told = Unit {0}

-- what was read is what the text gives, unless memory ran out
abbrev pub ReadsSeason : Result (List NewVisit) SeasonFault → Result (List NewVisit) ℕ → Type 0
ReadsSeason (Ok visits) told = told ≡ Ok visits
ReadsSeason (Err fault) told = RefusesSeason fault told
