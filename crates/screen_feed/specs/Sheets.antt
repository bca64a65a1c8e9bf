-- Sheets, and lists of them.
use Rattle.std.specs.Prelude.{◌≡◌, ◌⊎◌, ℕ, List, [], ◌∷◌, ◌++◌}
use Rattle.apron_base.specs.Histories.{Every, Rises}
use Rattle.apron_rules.specs.declared.parts.AirportParts.{AirportParts}
use Rattle.plan_core.specs.PlanState.{IsPlan, PlanState, version_limit}
use Rattle.wall_chart.specs.Chart.{chart_text}

-- what a sheet is of: plans of an airport, on a day
pub record ShownChart : Type 0 where
  pub airport : AirportParts
  pub day : ℕ

-- what it is of, a version, and the chart of a plan of this version
pub record SheetState : Type 0 where
  pub shown : ShownChart
  pub version : ℕ
  pub text : List ℕ

abbrev pub sheet_version : SheetState → ℕ
sheet_version sheet = sheet.version

-- the sheet of a plan for a day
abbrev pub sheet_of : PlanState → ℕ → SheetState
sheet_of plan day = record {
  shown = record { airport = plan.airport; day = day };
  version = plan.version;
  text = chart_text plan.airport plan day;
}

-- the sheet of some plan of the airport
pub record IsSheet (shown : ShownChart) (sheet : SheetState) : Type 0 where
  pub plan : PlanState
  pub is_plan : IsPlan plan
  pub airport : plan.airport ≡ shown.airport
  pub is : sheet ≡ sheet_of plan shown.day

-- each is a sheet, and their versions rise strictly
pub record AreSheets (shown : ShownChart) (sheets : List SheetState) : Type 0 where
  pub each : Every (IsSheet shown) sheets
  pub rises : Rises sheet_version 0 version_limit sheets

-- the first list begins with the second
abbrev pub Begins : List SheetState → List SheetState → Type 0
Begins sheets front = (rest : List SheetState) × (sheets ≡ front ++ rest)

-- the sheet is one of these
abbrev pub IsAmong : List SheetState → SheetState → Type 0
IsAmong [] sheet = ⊥
IsAmong (other ∷ others) sheet = (other ≡ sheet) ⊎ IsAmong others sheet

-- each of the first sheets is one of the second
abbrev pub AreAmong : List SheetState → List SheetState → Type 0
AreAmong sheets others = Every (IsAmong others) sheets

-- the list ends with the sheet
abbrev pub IsLast : List SheetState → SheetState → Type 0
IsLast sheets sheet = (before : List SheetState) × (sheets ≡ before ++ sheet ∷ [])

-- the version of the last sheet, or else this one
abbrev pub version_after : ℕ → List SheetState → ℕ
version_after version [] = version
version_after version (sheet ∷ sheets) = version_after sheet.version sheets

-- the version of the last sheet
abbrev pub last_version : List SheetState → ℕ
last_version sheets = version_after 0 sheets
