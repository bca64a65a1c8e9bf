-- What the workers of several screens do.
use Rattle.std.specs.Prelude.{◌≡◌, ℕ, List, map}
use Rattle.apron_base.specs.Histories.{Every}
use Rattle.apron_base.specs.Listener.{ListenerState}
use Rattle.desk_workers.specs.Crew.{Worker, end_of}
use Rattle.desk_workers.specs.Work.{EndStates, Works}
use Rattle.desk_workers.specs.declared.worker.WorkEnd.{WorkEnd}
use Rattle.screen_feed.specs.Screens.{ScreenState}
use Rattle.screen_server.specs.Looks.{HasLook}

-- a worker that shows a screen
abbrev pub ScreenWorker : Type 0 → Type 0 → Type 0
ScreenWorker In Out = Worker In Out ScreenState

-- listeners, and the screens that are shown on them
pub record WallsState (In Out : Type 0) : Type 0 where
  pub listeners : List (ListenerState In Out)
  pub screens : List ScreenState

-- the same of listeners that are seen so
abbrev pub walls_of : {In Out L : Type 0} → (L → ListenerState In Out) → List L → List ScreenState
    → WallsState In Out
walls_of state walls screens = record { listeners = map state walls; screens = screens }

-- Workers that were asked for this many connections each, one for each of these screens and its
-- listener: how they ended together.
pub record ShowsAll {In Out : Type 0} (states : EndStates In Out) (asked : ℕ)
    (before after : WallsState In Out) (end : WorkEnd) : Type 0 where
  pub workers : List (ScreenWorker In Out)
  pub looks : before.screens ≡ map (λ (worker : ScreenWorker In Out). worker.before.own) workers
  pub seen : after.screens ≡ map (λ (worker : ScreenWorker In Out). worker.after.own) workers
  pub begun : before.listeners
      ≡ map (λ (worker : ScreenWorker In Out). worker.before.listener) workers
  pub ended : after.listeners
      ≡ map (λ (worker : ScreenWorker In Out). worker.after.listener) workers
  pub end_is : end ≡ end_of (map (λ (worker : ScreenWorker In Out). worker.end) workers)
  pub work : Every
      (λ (worker : ScreenWorker In Out).
      Works (HasLook states) asked worker.before worker.after worker.end) workers
