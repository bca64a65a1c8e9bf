-- What the word `desk` does: one session of a desk alone at an airport, on its journal on the disk.
use Rattle.std.specs.Prelude.{◌≡◌, ◌==◌, ◌+◌, ℕ, List, [], ◌++◌, length, true, None}
use Rattle.apron_base.specs.declared.outside.Outcome.{Outcome}
use Rattle.desk_asks.specs.declared.asks.Entry.{Entry}
use Rattle.history_core.specs.History.{IsLegal, IsSoundPlan, call_limit, replay}
use Rattle.history_core.specs.Opening.{next_after}
use Rattle.desk_http.specs.Alone.{AloneAsks}
use Rattle.desk_http.specs.FedSession.{FedAnswers}
use Rattle.desk_http.specs.Ports.{PortState}
use Rattle.desk_http.specs.Session.{SessionState, SessionBy}
use Rattle.desk_workers.specs.Alone.{AloneFeeds}
use Rattle.desk_workers.specs.Watched.{FeedTexts}
use Rattle.apron_check.specs.declared.files.AirportFiles.{AirportFiles}
use Rattle.apron_run.specs.Journal.{KeepsHistory, WithJournal}
use Rattle.apron_run.specs.Survival.{Survives}
use Rattle.apron_run.specs.World.{RunWorld}
use Rattle.apron_run.specs.declared.end.End.{End}
use Rattle.apron_run.specs.declared.end.End.TheVariants as ended

-- what a session knows of its ends and of its port
abbrev pub session_state : RunWorld → PortState → SessionState
session_state world port = record { source = world.source; sink = world.sink; port = port }

-- a desk that has made no call yet: it has seen the opened history, no entry is at risk, its calls
-- go on from the last entry's number, and the disk has failed this often
abbrev pub new_port : List Entry → ℕ → PortState
new_port opened faults = record {
  first = next_after opened;
  seen = opened;
  at_risk = None;
  calls = [];
  spent = next_after opened == call_limit;
  faults = faults;
}

-- `feeds` says what the reply to each feed is, by the airport and the history
module _ (feeds : FeedTexts) where
  -- The headline for one desk, at the legal history that the journal opened to. The session
  -- answered the requests at the front of the bytes that it took, in order, and wrote the replies,
  -- byte for byte, up to where its outcome says. A request that asks nothing of the plan, and for
  -- no feed, has its fixed reply. Each other one has the next call number, from one above the last
  -- entry's on, and its answer at the plan and the history as they then were; or in its place the
  -- reply that memory has run out, or, to a command that the plan accepts, that its entry could not
  -- be kept. The disk's count of faults rises exactly at the last. If the call numbers ran out, all
  -- of them were used. The history at the end is legal, begins with the one that was opened, and
  -- survives a crash, and after each of its entries the plan is sound. The disk is the journal of
  -- the same files with it; or, if it has failed, with it and perhaps the entry of a request whose
  -- reply said that it could not be kept, after which none was added, and with which it is legal.
  pub record ServesDesk (files : AirportFiles) (opened : List Entry) (before after : RunWorld)
      (outcome : Outcome) : Type 0 where
    pub port : PortState
    pub session : SessionBy
        (FedAnswers AloneAsks (AloneFeeds (feeds files.airport)) files.airport) files.airport
        (session_state before (new_port opened before.disk.faults)) (session_state after port) outcome
    pub spent : port.spent ≡ true → port.first + length port.calls ≡ call_limit
    pub faults : port.faults ≡ after.disk.faults
    pub begins : (added : List Entry) × (port.seen ≡ opened ++ added)
    pub legal : IsLegal files.airport port.seen
    pub sound : (front back : List Entry)
        → port.seen ≡ front ++ back
        → IsSoundPlan (replay files.airport front)
    pub keeps : KeepsHistory files port.seen port.at_risk after.disk
    pub survives : Survives files.digests port.seen port.at_risk before.disk after.disk

  -- a session is served at the opened history
  abbrev pub ServesSession : AirportFiles → List Entry → RunWorld → RunWorld → End → Type 0
  ServesSession files opened before after (ended.Served outcome) = (after.shelf ≡ before.shelf)
      × ServesDesk files opened before after outcome
  ServesSession files opened before after end = ⊥

  -- what the word does at these files: a session on their journal
  abbrev pub AtDesk : AirportFiles → RunWorld → RunWorld → End → Type 0
  AtDesk = WithJournal ServesSession
