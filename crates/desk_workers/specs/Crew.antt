-- What several workers at one board do, each with a listener and a port of its own.
use Rattle.std.specs.Prelude.{◌≡◌, ◌⊎◌, ◌≤◌, ◌==◌, ◌&&◌, nat_le, nat_lt, cond, ℕ, true, false, List, [], ◌∷◌, map, None, Some, IfSome}
use Rattle.std.specs.List.{Any, count_by, flat_map, sum_by}
use Rattle.apron_base.specs.Counts.{RoseBy}
use Rattle.apron_base.specs.Histories.{Every, Rises}
use Rattle.apron_base.specs.Listener.{ListenerState}
use Rattle.apron_base.specs.Machine.{MachineState}
use Rattle.desk_asks.specs.declared.asks.Entry.{Entry}
use Rattle.history_core.specs.History.{IsLegal, call_limit, call_of}
use Rattle.desk_http.specs.Ports.{IsLater, PortState}
use Rattle.desk_http.specs.Session.{SessionKind}
use Rattle.desk_workers.specs.declared.worker.WorkEnd.{WorkEnd}
use Rattle.desk_workers.specs.declared.worker.WorkEnd.TheVariants.{Done, ListenerFault}
use Rattle.desk_workers.specs.Work.{EndStates, HasSession, WorkState, Works}

-- the listeners of the workers in order, and the board, with what is around it
pub record CrewState (In Out Fixed : Type 0) : Type 0 where
  pub listeners : List (ListenerState In Out)
  pub board : MachineState Entry Fixed

-- a worker: its listener and what it serves by, before and after, and how it ended
pub record Worker (In Out State : Type 0) : Type 0 where
  pub before : WorkState In Out State
  pub after : WorkState In Out State
  pub end : WorkEnd

-- one that serves desks
abbrev pub DeskWorker : Type 0 → Type 0 → Type 0
DeskWorker In Out = Worker In Out PortState

-- a port that has seen this history, and has made no call
pub record IsFresh (history : List Entry) (port : PortState) : Type 0 where
  pub seen : port.seen ≡ history
  pub calls : port.calls ≡ []
  pub at_risk : port.at_risk ≡ None
  pub spent : port.spent ≡ false
  pub faults : port.faults ≡ 0

-- how workers ended together: as the first one that did not finish all its connections, if there is
-- one
abbrev pub end_of : List WorkEnd → WorkEnd
end_of [] = Done
end_of (Done ∷ ends) = end_of ends
end_of (ListenerFault ∷ ends) = ListenerFault

-- these calls are the numbers from the first one up to the end, each once
abbrev pub AreAllOnce : ℕ → ℕ → List ℕ → Type 0
AreAllOnce first end calls = (number : ℕ)
    → count_by (λ call. number == call) calls ≡ cond (nat_le first number && nat_lt number end) 1 0

-- a count of faults after calls that told this many: it rose by at least as many, or has its last
-- value; and it stays if they told none
pub record CountsTold (told before after : ℕ) : Type 0 where
  pub none : told ≡ 0 → after ≡ before
  pub some : RoseBy told before after

module _ {In Out : Type 0} where
  -- how many faults the ports of all workers count
  abbrev pub crew_faults : List (DeskWorker In Out) → ℕ
  crew_faults workers = sum_by (λ (worker : DeskWorker In Out). worker.after.own.faults) workers

  -- the calls of all workers
  abbrev pub crew_calls : List (DeskWorker In Out) → List ℕ
  crew_calls workers = flat_map (λ (worker : DeskWorker In Out). worker.after.own.calls) workers

  -- the worker has seen this history at its end
  abbrev pub HasSeen : List Entry → DeskWorker In Out → Type 0
  HasSeen history worker = worker.after.own.seen ≡ history

  -- the worker's port tells this entry at risk at its end: one that was asked for on its
  -- connections, and could not be kept
  abbrev pub TellsAtRisk : Entry → DeskWorker In Out → Type 0
  TellsAtRisk entry worker = worker.after.own.at_risk ≡ Some entry

  -- an entry that one of these workers could not keep, and none was added since: each of the
  -- history has a lower number
  pub record IsUnkeptOf (workers : List (DeskWorker In Out)) (history : List Entry)
      (entry : Entry) : Type 0 where
    pub by : Any (TellsAtRisk entry) workers
    pub since : Rises call_of 1 entry.call history

-- `kinds` says of which kind the sessions are, by the fixed part
module _ {In Out Fixed : Type 0} (states : EndStates In Out) (kinds : Fixed → SessionKind)
    (asked : ℕ) (before after : MachineState Entry Fixed) where
  -- A worker at the board: its port had seen the board's history, and it served the connections of
  -- its listener over it. What it has seen at its end begins the history at the end, and all other
  -- entries have greater numbers than its calls.
  pub record WorksAt (worker : DeskWorker In Out) : Type 0 where
    pub fresh : IsFresh before.history worker.before.own
    pub works : Works (HasSession states (kinds before.fixed)) asked worker.before worker.after worker.end
    pub seen : IsLater worker.after.own.seen worker.after.own.calls after.history

-- Workers that were asked for this many connections each, one for each listener: how they ended
-- together, and what they left of the board. Its history is legal, begins with the history before,
-- and is the longest that one of them has seen. Their calls together are, without a gap and each
-- once, the numbers from the board's next one up to an end. This is the end of all numbers if a
-- port found none left. The board's count of faults rose by at least as many as their ports count,
-- and stays if these count none. An entry at risk at the end is one that one of them could not
-- keep, and none was added since.
pub record ServesBoard {In Out Fixed : Type 0} (states : EndStates In Out)
    (kinds : Fixed → SessionKind) (asked : ℕ) (before after : CrewState In Out Fixed)
    (end : WorkEnd) : Type 0 where
  pub workers : List (DeskWorker In Out)
  pub begun : before.listeners ≡ map (λ (worker : DeskWorker In Out). worker.before.listener) workers
  pub ended : after.listeners ≡ map (λ (worker : DeskWorker In Out). worker.after.listener) workers
  pub end_is : end ≡ end_of (map (λ (worker : DeskWorker In Out). worker.end) workers)
  pub work : Every (WorksAt states kinds asked before.board after.board) workers
  pub fixed : after.board.fixed ≡ before.board.fixed
  pub legal : IsLegal (kinds after.board.fixed).airport after.board.history
  pub begins : IsLater before.board.history [] after.board.history
  pub longest : (after.board.history ≡ before.board.history)
      ⊎ Any (HasSeen after.board.history) workers
  pub last : ℕ
  pub order : (before.board.next ≤ last) × (last ≤ call_limit)
  pub calls : AreAllOnce before.board.next last (crew_calls workers)
  pub exhausted : Every
      (λ (worker : DeskWorker In Out). worker.after.own.spent ≡ true → last ≡ call_limit) workers
  pub faults : before.board.faults ≤ after.board.faults
  pub told : CountsTold (crew_faults workers) before.board.faults after.board.faults
  pub at_risk : IfSome after.board.at_risk (IsUnkeptOf workers after.board.history)
