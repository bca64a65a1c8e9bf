-- The screens of a hall, as they were left.
use Rattle.std.proofs.Common.{◌≡◌, ◌∙◌, Bool, List, Result, Ok, Err, IfOk, ap, subst}
use Rattle.apron_base.specs.Histories.{Every}
use Rattle.apron_base.specs.Keeper.{KeeperState}
use Rattle.apron_base.specs.Listener.{ListenerState}
use Rattle.apron_rules.specs.declared.parts.AirportParts.{AirportParts}
use Rattle.desk_workers.specs.Crew.{ServesBoard}
use Rattle.desk_workers.specs.Work.{EndStates}
use Rattle.screen_feed.specs.Screens.{ScreenState}
use Rattle.shown_board.specs.Halls.{HallFixedState, HallHeld, SeesFronts, hall_state}
use Rattle.watch_list.specs.declared.note.Note.{Note}
use Rattle.screen_server.specs.Looks.{IsNewScreen}
use Rattle.screen_server.specs.Shown.{Opened, ShowsFrom}
use Rattle.screen_server.specs.Walls.{ShowsAll}
use Rattle.screen_server.specs.declared.shown.ShownEnd.{ShownEnd}
use Rattle.screen_server.specs.declared.shown.Task.{Task}
use Rattle.screen_server.proofs.Boards.{hall_sessions}

module _ {In Out K R : Type 0} (states : EndStates In Out) (opened : Opened) (task : Task) (before after : List (ListenerState In Out)) (screens seen : List ScreenState)
    (begun hall : HallHeld K R) (new : Every (IsNewScreen opened.airport opened.history task.day) screens) (airport : begun.board.board.airport ≡ opened.airport) where
  -- screens that were served at a hall
  pub screens_left : {E : Type 0} (keeper : K → KeeperState) (tells : R → Note → Bool) (olds news : List (ListenerState In Out)) (ended : Result ShownEnd E)
      → IfOk ended (λ ends. ServesBoard states (hall_sessions tells) task.connections (record { listeners = olds; board = hall_state keeper begun })
      (record { listeners = news; board = hall_state keeper hall }) ends.desks)
      → IfOk ended (λ ends. ShowsAll states task.connections (record { listeners = before; screens = screens }) (record { listeners = after; screens = seen }) ends.screens)
      → IfOk ended (λ ends. Every (SeesFronts hall.board.board.airport hall.board.board.history) seen)
      → IfOk ended (λ ends. ShowsFrom states opened task before (record { listeners = after; history = hall.board.board.history; end = ends.screens }))
  screens_left keeper tells olds news (Err none) serves shows see = tt
  screens_left keeper tells olds news (Ok ends) serves shows see =
      let history = hall.board.board.history in
      let is : hall.board.board.airport ≡ opened.airport = ap (λ (fixed : HallFixedState R). fixed.watched.airport) serves.fixed ∙ airport in
      record {
        screens = screens;
        new = new;
        seen = seen;
        shows = shows;
        see = subst (λ (a : AirportParts). Every (SeesFronts a history) seen) is see;
      }
