-- What a worker does with the connections of its listener.
use Rattle.std.specs.Prelude.{◌≡◌, ◌+◌, ◌<◌, ℕ, Bool, true, false, List, [], ◌∷◌, ◌++◌, length, map, Result, MatchResult}
use Rattle.std.specs.Option.{option_map}
use Rattle.apron_base.specs.Counts.{Counts}
use Rattle.apron_base.specs.Ends.{SinkState, SourceState}
use Rattle.apron_base.specs.Listener.{ListenerState}
use Rattle.apron_base.specs.declared.listener.Finished.{Finished}
use Rattle.desk_http.specs.Ports.{PortState}
use Rattle.desk_http.specs.Session.{SessionKind, SessionOfKind}
use Rattle.desk_workers.specs.declared.worker.WorkEnd.{WorkEnd}
use Rattle.desk_workers.specs.declared.worker.WorkEnd.TheVariants.{Done, ListenerFault}

-- how the ends of a connection are seen
pub record EndStates (In Out : Type 0) : Type 0 where
  pub source : In → SourceState
  pub sink : Out → SinkState

-- a connection as it was accepted, and as it was finished
pub record Connection (In Out : Type 0) : Type 0 where
  pub source : In
  pub sink : Out
  pub finished : Finished In Out

-- the listener of a worker, and what it serves by, as that is seen: a port, or a screen
pub record WorkState (In Out State : Type 0) : Type 0 where
  pub listener : ListenerState In Out
  pub own : State

-- whether the listener failed
abbrev pub is_listener_fault : WorkEnd → Bool
is_listener_fault Done = false
is_listener_fault ListenerFault = true

-- how many connections were finished of those that were asked for: all, or fewer if the listener
-- failed
abbrev pub IsEndAt : WorkEnd → ℕ → ℕ → Type 0
IsEndAt Done asked count = count ≡ asked
IsEndAt ListenerFault asked count = count < asked

module _ {In Out : Type 0} where
  -- a connection as it was among those to come
  abbrev pub come_of : Connection In Out → In × Out
  come_of connection = (connection.source, connection.sink)

  -- a connection as it is among the finished ones
  abbrev pub finished_of : Connection In Out → Finished In Out
  finished_of connection = connection.finished

  -- these connections were accepted and finished, each in order, and another accept failed or none
  pub record TakesAndFinishes (failed : Bool) (before after : ListenerState In Out)
      (connections : List (Connection In Out)) : Type 0 where
    pub to_come : before.to_come
        ≡ option_map (λ others. map come_of connections ++ others) after.to_come
    pub finished : after.finished
        ≡ option_map (λ others. others ++ map finished_of connections) before.finished
    pub accepted : after.accepted ≡ before.accepted + length connections
    pub ended : after.ended ≡ before.ended + length connections
    pub faults : Counts failed before.faults after.faults

-- the connection had a session of this kind, and was finished with its outcome
abbrev pub HasSession : {In Out : Type 0} → EndStates In Out → SessionKind → PortState
    → Connection In Out → PortState → Type 0
HasSession states kind before connection after = SessionOfKind kind
    (record {
      source = states.source connection.source;
      sink = states.sink connection.sink;
      port = before;
    })
    (record {
      source = states.source connection.finished.source;
      sink = states.sink connection.finished.sink;
      port = after;
    })
    connection.finished.outcome

-- `Served` says what serving a connection does to what the worker serves by
module _ {In Out State : Type 0} (Served : State → Connection In Out → State → Type 0) where
  -- the connections were served, one after the other
  abbrev pub AreServed : State → List (Connection In Out) → State → Type 0
  AreServed before [] after = after ≡ before
  AreServed before (connection ∷ connections) after =
      (between : State) × Served before connection between × AreServed between connections after

  -- these connections were accepted, served one after the other and finished, and another accept
  -- failed or none
  pub record Serves (failed : Bool) (before after : WorkState In Out State)
      (connections : List (Connection In Out)) : Type 0 where
    pub served : AreServed before.own connections after.own
    pub finishes : TakesAndFinishes failed before.listener after.listener connections

  -- one connection was served and finished, or the listener failed
  abbrev pub ServesNext : {T E : Type 0} → WorkState In Out State → WorkState In Out State
      → Result T E → Type 0
  ServesNext before after result = MatchResult result
      (λ _. (connection : Connection In Out) × Serves false before after (connection ∷ []))
      (λ _. Serves true before after [])

  -- A worker that was asked for this many connections: it served these, all or fewer, and fewer
  -- only if the listener failed.
  pub record Works (asked : ℕ) (before after : WorkState In Out State) (end : WorkEnd) : Type 0 where
    pub connections : List (Connection In Out)
    pub serves : Serves (is_listener_fault end) before after connections
    pub count : IsEndAt end asked (length connections)
