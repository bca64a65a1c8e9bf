-- What a screen shows on a connection.
use Rattle.std.specs.Prelude.{◌≡◌, ◌≤◌, ℕ, true, false, List, [], ◌∷◌, take, None, Some}
use Rattle.apron_base.specs.Ends.{SinkState, Wrote}
use Rattle.apron_base.specs.declared.outside.Outcome.{Outcome}
use Rattle.apron_base.specs.declared.outside.Outcome.TheVariants.{Ended, Memory, WriteFault}
use Rattle.apron_rules.specs.declared.parts.AirportParts.{AirportParts}
use Rattle.desk_asks.specs.declared.asks.Entry.{Entry}
use Rattle.history_core.specs.History.{replay}
use Rattle.desk_workers.specs.Work.{Connection, EndStates}
use Rattle.screen_feed.specs.Screens.{HasLooked, ScreenState}
use Rattle.screen_feed.specs.Sheets.{IsLast, IsSheet, SheetState, last_version, sheet_of}

-- a screen that has seen the chart of the plan of a history on its day, and nothing else, and has
-- not looked
abbrev pub IsNewScreen : AirportParts → List Entry → ℕ → ScreenState → Type 0
IsNewScreen airport history day screen =
    (screen.shown ≡ record { airport = airport; day = day })
    × (screen.seen ≡ sheet_of (replay airport history) day ∷ [])
    × (screen.given ≡ None)

-- a screen and the sink of a connection
pub record ScreenAndSink : Type 0 where
  pub screen : ScreenState
  pub sink : SinkState

-- the sheet that the screen's last look gave, which is the last that it has seen: the chart of its
-- day of some plan of its airport
pub record IsLastSheet (screen : ScreenState) (sheet : SheetState) : Type 0 where
  pub given : screen.given ≡ Some (Some sheet)
  pub last : IsLast screen.seen sheet
  pub chart : IsSheet screen.shown sheet

-- how a connection ends, and what is put on it: the text of the sheet that the look gave; or, if it
-- gave none, nothing; or, if the sink fails, a front of the text
abbrev pub EndsLook : ScreenAndSink → ScreenAndSink → Outcome → Type 0
EndsLook before after Ended = (sheet : SheetState) × IsLastSheet after.screen sheet
    × Wrote false before.sink after.sink sheet.text
EndsLook before after Memory = (after.screen.given ≡ Some None) × (after.sink ≡ before.sink)
EndsLook before after WriteFault = (sheet : SheetState) × IsLastSheet after.screen sheet
    × ((count : ℕ) × Wrote true before.sink after.sink (take count sheet.text))
EndsLook before after outcome = ⊥

-- one look: the screen has seen no older sheet than before
pub record LooksOnce (before after : ScreenAndSink) (outcome : Outcome) : Type 0 where
  pub looked : HasLooked before.screen after.screen
  pub later : last_version before.screen.seen ≤ last_version after.screen.seen
  pub ends : EndsLook before after outcome

-- nothing was read from the connection, and the screen looked once for it
pub record HasLook {In Out : Type 0} (states : EndStates In Out) (before : ScreenState)
    (connection : Connection In Out) (after : ScreenState) : Type 0 where
  pub unread : connection.finished.source ≡ connection.source
  pub looks : LooksOnce (record { screen = before; sink = states.sink connection.sink })
      (record { screen = after; sink = states.sink connection.finished.sink })
      connection.finished.outcome
