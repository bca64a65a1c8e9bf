-- What the workers of new screens do.
use Rattle.std.specs.Prelude.{List}
use Rattle.apron_base.specs.Histories.{Every}
use Rattle.apron_base.specs.Listener.{ListenerState}
use Rattle.apron_rules.specs.declared.parts.AirportParts.{AirportParts}
use Rattle.desk_asks.specs.declared.asks.Entry.{Entry}
use Rattle.desk_workers.specs.Work.{EndStates}
use Rattle.desk_workers.specs.declared.worker.WorkEnd.{WorkEnd}
use Rattle.screen_feed.specs.Screens.{ScreenState}
use Rattle.shown_board.specs.Halls.{SeesFronts}
use Rattle.screen_server.specs.Looks.{IsNewScreen}
use Rattle.screen_server.specs.Walls.{ShowsAll}
use Rattle.screen_server.specs.declared.shown.Task.{Task}

-- the history of an airport's plan
pub record Opened : Type 0 where
  pub airport : AirportParts
  pub history : List Entry

-- how screens were left: their listeners, the board's history, and how their workers ended together
pub record ScreensLeft (In Out : Type 0) : Type 0 where
  pub listeners : List (ListenerState In Out)
  pub history : List Entry
  pub end : WorkEnd

-- Workers of screens, each of which had seen the chart of the opened plan on the day of the task,
-- and had not looked. Each sheet that a screen has seen is the chart of a front of the history at
-- the end.
pub record ShowsFrom {In Out : Type 0} (states : EndStates In Out) (opened : Opened) (task : Task)
    (before : List (ListenerState In Out)) (left : ScreensLeft In Out) : Type 0 where
  pub screens : List ScreenState
  pub new : Every (IsNewScreen opened.airport opened.history task.day) screens
  pub seen : List ScreenState
  pub shows : ShowsAll states task.connections
      (record { listeners = before; screens = screens })
      (record { listeners = left.listeners; screens = seen }) left.end
  pub see : Every (SeesFronts opened.airport left.history) seen
