-- A board whose plan is shown on screens, as contracts see it and as a machine.
use Rattle.std.specs.Prelude.{◌≡◌, ◌≤◌, ◌⊎◌, ◌↔◌, ℕ, Bool, false, List, [], ◌∷◌, ◌++◌, length, map, Option, None, Some}
use Rattle.logbook.specs.Pages.{Book}
use Rattle.apron_base.specs.Histories.{Every}
use Rattle.apron_base.specs.Keeper.{KeeperState}
use Rattle.apron_base.specs.Machine.{MachineState}
use Rattle.apron_rules.specs.declared.parts.AirportParts.{AirportParts}
use Rattle.plan_core.specs.PlanState.{PlanState}
use Rattle.desk_asks.specs.declared.asks.Entry.{Entry}
use Rattle.history_core.specs.History.{replay}
use Rattle.watch_list.specs.declared.watch_asks.WatchFixed.{WatchFixed}
use Rattle.watch_list.specs.WatchBoards.{WatchHeld, watch_fixed, watch_state}
use Rattle.screen_feed.specs.Sheets.{SheetState, last_version, sheet_of}
use Rattle.screen_feed.specs.Screens.{HasMissed, ScreenState, WriterState, after_show}

-- the chart of a day of the plan that a front of the history makes; the front has as many entries
-- as the sheet's version says
pub record IsOfFront (airport : AirportParts) (history : List Entry) (day : ℕ)
    (sheet : SheetState) : Type 0 where
  pub front : List Entry
  pub rest : List Entry
  pub is : history ≡ front ++ rest
  pub count : length front ≡ sheet.version
  pub chart : sheet ≡ sheet_of (replay airport front) day

-- a writer for the airport: each sheet that it has shown, or tried to show, is the chart of a front
-- of the history
pub record IsWriterOf (airport : AirportParts) (history : List Entry)
    (writer : WriterState) : Type 0 where
  pub airport_is : writer.shown.airport ≡ airport
  pub sheets : Every (IsOfFront airport history writer.shown.day) writer.sheets
  pub tried : Every (IsOfFront airport history writer.shown.day) writer.tried

-- each sheet that the screen has seen is the chart of a front of the history
abbrev pub SeesFronts : AirportParts → List Entry → ScreenState → Type 0
SeesFronts airport history screen =
    Every (λ (sheet : SheetState). IsOfFront airport history sheet.shown.day sheet) screen.seen

-- a writer for the airport, which has shown the plan of the history, and has tried to show nothing
-- else
abbrev pub IsNewWriter : AirportParts → List Entry → WriterState → Type 0
IsNewWriter airport history writer =
    (writer.shown.airport ≡ airport)
    × (writer.sheets ≡ sheet_of (replay airport history) writer.shown.day ∷ [])
    × (writer.tried ≡ sheet_of (replay airport history) writer.shown.day ∷ [])

-- the last sheet of the writer has this version
abbrev pub ShowsVersion : ℕ → WriterState → Type 0
ShowsVersion version writer = last_version writer.sheets ≡ version

-- the writer may be shown the plan
abbrev pub CanShow : PlanState → WriterState → Type 0
CanShow plan writer = (writer.shown.airport ≡ plan.airport)
    × (last_version writer.sheets ≤ plan.version)

-- a writer before and after it was to show a plan: it shows it, or has missed it
abbrev pub IsShown : PlanState → WriterState → WriterState → Type 0
IsShown plan before after =
    let sheet = sheet_of plan before.shown.day in
    (after ≡ after_show before sheet) ⊎ HasMissed before sheet after

-- the pairs of these writers, in order
abbrev pub pairs_of : List WriterState → List Book
pairs_of writers = map (λ (writer : WriterState). writer.pair) writers

-- what no act changes of a hall: what none changes of its board, the pairs of its writers, and the
-- number that the next call might have as the hall was made
pub record HallFixedState (R : Type 0) : Type 0 where
  pub watched : WatchFixed R
  pub pairs : List Book
  pub begun : ℕ

-- a board, its writers, whether the last act missed to show a writer the plan, and the number that
-- the next call might have as the hall was made
pub record HallHeld (K R : Type 0) : Type 0 where
  pub board : WatchHeld K R
  pub writers : List WriterState
  pub missed : Bool
  pub begun : ℕ

-- what is known of a hall that has ended: the least number that its first call could have, the
-- version of its board's plan, how many writers it had, and whether one of them did not show that
-- version
pub record HallNoteState : Type 0 where
  pub begun : ℕ
  pub version : ℕ
  pub writers : ℕ
  pub missed : Bool

-- the note, if there are writers
abbrev pub note_with : List WriterState → HallNoteState → Option HallNoteState
note_with [] note = None
note_with (writer ∷ writers) note = Some note

module _ {K R : Type 0} where
  -- the plan of the board
  abbrev pub hall_plan : HallHeld K R → PlanState
  hall_plan hall = replay hall.board.board.airport hall.board.board.history

  -- each writer shows fronts of the board's history, and no show was missed exactly if each writer
  -- shows the plan's version
  pub record IsHall (hall : HallHeld K R) : Type 0 where
    pub writers : Every (IsWriterOf hall.board.board.airport hall.board.board.history) hall.writers
    pub missed : hall.missed ≡ false ↔ Every (ShowsVersion (hall_plan hall).version) hall.writers

  abbrev pub hall_fixed : HallHeld K R → HallFixedState R
  hall_fixed hall = record {
    watched = watch_fixed hall.board;
    pairs = pairs_of hall.writers;
    begun = hall.begun;
  }

  -- what is known of the hall once it has ended
  abbrev pub hall_note : HallHeld K R → Option HallNoteState
  hall_note hall = note_with hall.writers (record {
    begun = hall.begun;
    version = (hall_plan hall).version;
    writers = length hall.writers;
    missed = hall.missed;
  })

  -- as a machine it is its board, with the pairs of its writers
  abbrev pub hall_state : (K → KeeperState) → HallHeld K R → MachineState Entry (HallFixedState R)
  hall_state tells hall = let board = watch_state tells hall.board in record {
    fixed = hall_fixed hall;
    history = board.history;
    at_risk = board.at_risk;
    next = board.next;
    faults = board.faults;
  }
