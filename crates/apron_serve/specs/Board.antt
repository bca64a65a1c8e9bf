-- What desks and screens that are served at one journal do to it, and to their listeners.
use Rattle.std.specs.Prelude.{◌≡◌, ◌<◌, Bool, true, false, List, [], ◌∷◌, ◌++◌, length, map}
use Rattle.apron_base.specs.Ends.{SinkState, SourceState}
use Rattle.apron_base.specs.Listener.{ListenerState}
use Rattle.apron_base.specs.Machine.{MachineState}
use Rattle.apron_base.specs.Shelf.{ShelfState}
use Rattle.apron_rules.specs.declared.parts.AirportParts.{AirportParts}
use Rattle.desk_asks.specs.declared.asks.Entry.{Entry}
use Rattle.history_core.specs.History.{IsSoundPlan, replay}
use Rattle.journal_disk.specs.Disk.{DiskState}
use Rattle.desk_workers.specs.Crew.{ServesBoard, end_of}
use Rattle.desk_workers.specs.Watched.{FeedTexts, fed_sessions}
use Rattle.desk_workers.specs.Work.{EndStates}
use Rattle.desk_workers.specs.declared.worker.WorkEnd.{WorkEnd}
use Rattle.desk_workers.specs.declared.worker.WorkEnd.TheVariants as work
use Rattle.screen_server.specs.Shown.{ShowsFrom}
use Rattle.screen_server.specs.declared.shown.Task.{Task}
use Rattle.apron_check.specs.declared.files.AirportFiles.{AirportFiles}
use Rattle.apron_run.specs.Opened.{opened_board}
use Rattle.apron_run.specs.Journal.{KeepsHistory, WithJournal}
use Rattle.apron_run.specs.Survival.{Survives}
use Rattle.apron_run.specs.World.{Untouched, World}
use Rattle.apron_run.specs.declared.end.End.{End}
use Rattle.apron_run.specs.declared.end.End.TheVariants as ended
use Rattle.apron_run.specs.declared.end.ServeEnd.{ServeEnd}
use Rattle.apron_run.specs.declared.end.ServeEnd.TheVariants.{Done, ListenerFault, Missed}

-- how the ends of connections are seen, and what the reply to each feed is
pub record Service (In Out : Type 0) : Type 0 where
  pub states : EndStates In Out
  pub feeds : FeedTexts

-- how serving ended, by how the workers ended and whether a screen's writer missed the last version
abbrev pub served_end : WorkEnd → Bool → ServeEnd
served_end work.ListenerFault missed = ListenerFault
served_end work.Done true = Missed
served_end work.Done false = Done

-- the world with these ends, by what is seen of a listener
abbrev pub serve_world : {L In Out : Type 0} → (L → ListenerState In Out) → ShelfState → SourceState
    → List L → List L → SinkState → DiskState → World In Out
serve_world listens shelf source listeners screens sink disk = record {
  shelf = shelf;
  source = source;
  listeners = map listens listeners;
  screens = map listens screens;
  sink = sink;
  disk = disk;
}

module _ {In Out : Type 0} (service : Service In Out) (task : Task) where
  -- The headline for many desks, at the legal history that the journal opened to. Each
  -- listener's connections were served one after the other by a worker of its own, whose port had
  -- seen that history. Each request was answered as for a desk alone, at the whole history that its
  -- turn found. At the end the history is legal, begins with the opened one, and is the longest
  -- that a worker has seen; each has seen a front of it. Their calls are the numbers from the
  -- board's next one on, each once and without a gap; all were used if a worker found none left. A
  -- worker got the answer that an entry could not be kept only if the disk's count rose. After each
  -- entry the plan is sound. The disk is left as the journal of the files with the history; or, if
  -- it has failed, perhaps with one more legal entry, for which a worker got that answer, and after
  -- which none was added. This history survives a crash. Beside the desks each screen, which had
  -- seen the chart of the opened plan, was shown on its connections, one look each: its sheets are
  -- charts of the day of plans that fronts of the history make, whose versions never fall. If there
  -- are screens, a writer of theirs may have missed the last version. Serving ended as the first
  -- worker in order that stopped early, those of the desks before those of the screens; if none
  -- did, by whether a version was missed. Nothing else of the world was used.
  pub record ServesDesks (files : AirportFiles) (opened : List Entry) (before after : World In Out)
      (served : ServeEnd) : Type 0 where
    pub shelf : after.shelf ≡ before.shelf
    pub source : after.source ≡ before.source
    pub sink : after.sink ≡ before.sink
    pub board : MachineState Entry AirportParts
    pub desks : WorkEnd
    pub serves : ServesBoard service.states (fed_sessions service.feeds) task.connections
        (record {
          listeners = before.listeners;
          board = opened_board files.airport opened before.disk.faults;
        })
        (record { listeners = after.listeners; board = board }) desks
    pub looks : WorkEnd
    pub shows : ShowsFrom service.states (record { airport = files.airport; history = opened }) task
        before.screens
        (record { listeners = after.screens; history = board.history; end = looks })
    pub missed : Bool
    pub some : missed ≡ true → 0 < length before.screens
    pub end_is : served ≡ served_end (end_of (desks ∷ looks ∷ [])) missed
    pub faults : after.disk.faults ≡ board.faults
    pub keeps : KeepsHistory files board.history board.at_risk after.disk
    pub survives : Survives files.digests board.history board.at_risk before.disk after.disk
    pub sound : (front back : List Entry)
        → board.history ≡ front ++ back
        → IsSoundPlan (replay files.airport front)

  -- desks and screens are served at the opened history, or there is no memory for the screens or
  -- the turns at it
  abbrev pub ServesBoth : AirportFiles → List Entry → World In Out → World In Out → End → Type 0
  ServesBoth files opened before after (ended.Attended served) =
      ServesDesks files opened before after served
  ServesBoth files opened before after ended.Memory = Untouched before after
  ServesBoth files opened before after end = ⊥

  -- what is done at these files: desks and screens are served at their journal
  abbrev pub AtServe : AirportFiles → World In Out → World In Out → End → Type 0
  AtServe = WithJournal ServesBoth
