-- Desks that were served at a board that is shown on screens, by its airport alone.
use Rattle.std.proofs.Common.{◌≡◌, ℕ, Bool, List, Result, IfOk, ap, subst}
use Rattle.std.proofs.lemmas.Result.{IfOk-weaker}
use Rattle.apron_base.specs.Keeper.{KeeperState}
use Rattle.apron_base.specs.Listener.{ListenerState}
use Rattle.desk_http.specs.Session.{SessionKind}
use Rattle.desk_workers.specs.Crew.{DeskWorker, ServesBoard, WorksAt}
use Rattle.desk_workers.specs.Feeds.{seat_sessions}
use Rattle.desk_workers.specs.Watched.{fed_sessions, feed_texts, watch_text}
use Rattle.desk_workers.specs.Work.{EndStates}
use Rattle.desk_workers.specs.declared.worker.WorkEnd.{WorkEnd}
use Rattle.history_core.specs.Board.{BoardHeld, machine_state}
use Rattle.shown_board.specs.Halls.{HallFixedState, HallHeld, hall_state}
use Rattle.screen_server.specs.declared.shown.ShownEnd.{ShownEnd}
use Rattle.turn_board.proofs.Totals.{every_more}
use Rattle.watch_list.specs.WatchBoards.{WatchHeld}
use Rattle.watch_list.specs.declared.note.Note.{Note}
use Rattle.watch_list.specs.declared.watch.Watched.{Watched}

-- of which kind sessions at a hall are
abbrev pub hall_sessions : {R : Type 0} → (R → Note → Bool) → HallFixedState R → SessionKind
hall_sessions tells fixed = seat_sessions (watch_text tells fixed.watched) fixed.watched.airport

module _ {In Out K R : Type 0} (states : EndStates In Out) (asked : ℕ) (keeper : K → KeeperState) (tells : R → Note → Bool) (before left : HallHeld K R) where
  -- a worker at the board
  works_plainly : (worker : DeskWorker In Out) → WorksAt states (hall_sessions tells) asked (hall_state keeper before) (hall_state keeper left) worker
      → WorksAt states (fed_sessions (feed_texts tells before.board.watches)) asked (record (machine_state keeper before.board.board) { next = before.board.next })
      (machine_state keeper left.board.board) worker
  works_plainly worker at = record { fresh = at.fresh; works = at.works; seen = at.seen }

  served_plainly : (olds news : List (ListenerState In Out)) (end : WorkEnd)
      → ServesBoard states (hall_sessions tells) asked (record { listeners = olds; board = hall_state keeper before })
      (record { listeners = news; board = hall_state keeper left }) end
      → ServesBoard states (fed_sessions (feed_texts tells before.board.watches)) asked
      (record { listeners = olds; board = record (machine_state keeper before.board.board) { next = before.board.next } })
      (record { listeners = news; board = machine_state keeper left.board.board }) end
  served_plainly olds news end serves = record {
    workers = serves.workers;
    begun = serves.begun;
    ended = serves.ended;
    end_is = serves.end_is;
    work = every_more (WorksAt states (hall_sessions tells) asked (hall_state keeper before) (hall_state keeper left))
        (WorksAt states (fed_sessions (feed_texts tells before.board.watches)) asked (record (machine_state keeper before.board.board) { next = before.board.next })
        (machine_state keeper left.board.board)) works_plainly serves.workers serves.work;
    fixed = ap (λ (fixed : HallFixedState R). fixed.watched.airport) serves.fixed;
    legal = serves.legal;
    begins = serves.begins;
    longest = serves.longest;
    last = serves.last;
    order = serves.order;
    calls = serves.calls;
    exhausted = serves.exhausted;
    faults = serves.faults;
    told = serves.told;
    at_risk = serves.at_risk;
  }

-- desks that were served at a hall over a board which was opened, and had these watches
pub board_served : {In Out K R E : Type 0} (states : EndStates In Out) (asked : ℕ) (keeper : K → KeeperState) (tells : R → Note → Bool)
    (opened : BoardHeld K) (watches : List (Watched R)) (before after : HallHeld K R) (olds news : List (ListenerState In Out)) (ended : Result ShownEnd E)
    → before.board ≡ record { board = opened; watches = watches; next = opened.next }
    → IfOk ended (λ ends. ServesBoard states (hall_sessions tells) asked (record { listeners = olds; board = hall_state keeper before })
    (record { listeners = news; board = hall_state keeper after }) ends.desks)
    → IfOk ended (λ ends. ServesBoard states (fed_sessions (feed_texts tells watches)) asked (record { listeners = olds; board = machine_state keeper opened })
    (record { listeners = news; board = machine_state keeper after.board.board }) ends.desks)
board_served {K = K} {R = R} states asked keeper tells opened watches before after olds news ended is serves =
    IfOk-weaker ended _ _ (λ ends each.
    (served_plainly states asked keeper tells (record before { board = record { board = opened; watches = watches; next = opened.next } }) after olds news ends.desks
    (subst (λ (held : WatchHeld K R). ServesBoard states (hall_sessions tells) asked (record { listeners = olds; board = hall_state keeper (record before { board = held }) })
    (record { listeners = news; board = hall_state keeper after }) ends.desks) is each))) serves
