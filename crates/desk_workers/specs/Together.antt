-- What workers do whose seats are split from one seat and meet it again.
use Rattle.std.specs.Prelude.{◌≡◌, ◌⊎◌, ◌+◌, ◌-◌, ◌<◌, ◌≤◌, ◌==◌, ℕ, true, false, List, [], ◌∷◌, map, Some}
use Rattle.std.specs.List.{Any, count_by, sum_by}
use Rattle.apron_base.specs.Histories.{Every}
use Rattle.apron_base.specs.Listener.{ListenerState}
use Rattle.desk_asks.specs.declared.asks.Entry.{Entry}
use Rattle.history_core.specs.History.{call_of}
use Rattle.turn_board.specs.Board.{Meets, SeatState}
use Rattle.turn_board.specs.Totals.{times}
use Rattle.turn_board.specs.declared.view.Call.{Call}
use Rattle.desk_http.specs.Ports.{IsLater}
use Rattle.desk_http.specs.Session.{SessionKind}
use Rattle.desk_workers.specs.declared.worker.WorkEnd.{WorkEnd}
use Rattle.desk_workers.specs.declared.worker.WorkEnd.TheVariants.{Done}
use Rattle.desk_workers.specs.Crew.{DeskWorker, HasSeen, IsFresh, TellsAtRisk, crew_calls, crew_faults, end_of}
use Rattle.desk_workers.specs.Seats.{ServedState, call_number, faults_of}
use Rattle.desk_workers.specs.Work.{Connection, EndStates, HasSession, Works}

-- the listeners of the workers in order, and the seat that theirs are cut from
pub record SeatedState (In Out Fixed : Type 0) : Type 0 where
  pub listeners : List (ListenerState In Out)
  pub seat : SeatState Entry Fixed

-- each of these entries has a greater number than each of these calls
abbrev pub AreLater : List ℕ → List Entry → Type 0
AreLater calls entries = Every (λ call. Every (λ entry. call < call_of entry) entries) calls

-- one of these calls has the number of the entry
abbrev pub HasCallOf : Entry → List (Call Entry) → Type 0
HasCallOf entry calls = Any (λ (call : Call Entry). call.number ≡ call_of entry) calls

-- each of these calls that is not from before the entry's left it at risk
abbrev pub StaysAtRisk : Entry → List (Call Entry) → Type 0
StaysAtRisk entry calls =
    Every (λ (call : Call Entry). call_of entry ≤ call.number → call.at_risk ≡ Some entry) calls

-- A worker whose seat was cut from one seat and met it again: what its port has seen at its end
-- begins the history that is seen then, and its calls and its note of exhausted numbers are with
-- that seat.
pub record WorksBeside {In Out Fixed : Type 0} (states : EndStates In Out) (kind : SessionKind)
    (asked : ℕ) (before after : SeatState Entry Fixed) (worker : DeskWorker In Out) : Type 0 where
  pub fresh : IsFresh before.seen worker.before.own
  pub works : Works (HasSession states kind) asked worker.before worker.after worker.end
  pub seen : IsLater worker.after.own.seen worker.after.own.calls after.seen
  pub own : (entries : List Entry)
      → AreLater (map call_number after.calls) entries
      → AreLater worker.after.own.calls entries
  pub exhausted : worker.after.own.spent ≡ true → after.exhausted ≡ true

-- workers that were asked for this many connections each, one for each listener: how they ended
-- together, and the seat that has met all of theirs; an entry that one of its calls put at risk,
-- and which stayed so, is that of a call from before or the one that a worker tells
pub record WorkTogether {In Out Fixed : Type 0} (states : EndStates In Out) (kind : SessionKind)
    (asked : ℕ) (before after : SeatedState In Out Fixed) (end : WorkEnd) : Type 0 where
  pub workers : List (DeskWorker In Out)
  pub begun : before.listeners ≡ map (λ (worker : DeskWorker In Out). worker.before.listener) workers
  pub ended : after.listeners ≡ map (λ (worker : DeskWorker In Out). worker.after.listener) workers
  pub end_is : end ≡ end_of (map (λ (worker : DeskWorker In Out). worker.end) workers)
  pub work : Every (WorksBeside states kind asked before.seat after.seat) workers
  pub begins : IsLater before.seat.seen [] after.seat.seen
  pub longest : (after.seat.seen ≡ before.seat.seen) ⊎ Any (HasSeen after.seat.seen) workers
  pub calls : (number : ℕ)
      → times number after.seat.calls
      ≡ times number before.seat.calls + count_by (λ call. number == call) (crew_calls workers)
  pub told : sum_by faults_of after.seat.calls
      ≡ sum_by faults_of before.seat.calls + crew_faults workers
  pub at_risk : (entry : Entry)
      → HasCallOf entry after.seat.calls
      → StaysAtRisk entry after.seat.calls
      → HasCallOf entry before.seat.calls ⊎ Any (TellsAtRisk entry) workers

-- `serves` says what serving a connection does to what a worker serves by, by what is `fixed` of
-- this, and `state` what is seen of it
module _ {In Out L S State Fixed : Type 0}
    (serves : Fixed → State → Connection In Out → State → Type 0) (fixed : S → Fixed)
    (state : S → State) (listens : L → ListenerState In Out) (asked : ℕ) where
  -- a worker served its listener by what it has, of which it kept what is fixed, and ended so
  abbrev pub WorksOver : S → L → S → L → WorkEnd → Type 0
  WorksOver old listener new left end =
      Works (serves (fixed old)) asked (record { listener = listens listener; own = state old })
      (record { listener = listens left; own = state new }) end
      × (fixed new ≡ fixed old)

  -- each worker did so, and all ended so
  abbrev pub WorkEach : List S → List L → List S → List L → WorkEnd → Type 0
  WorkEach [] [] [] [] end = Unit {0}
  WorkEach (old ∷ olds) (listener ∷ listeners) (new ∷ news) (left ∷ others) end =
      WorksOver old listener new left end × WorkEach olds listeners news others end
  WorkEach olds listeners news others end = ⊥

  -- each worker did so, and this is how they ended together
  abbrev pub WorkAll : List S → List L → List S → List L → WorkEnd → Type 0
  WorkAll [] [] [] [] end = end ≡ Done
  WorkAll (old ∷ olds) (listener ∷ listeners) (new ∷ news) (left ∷ others) end =
      (one : WorkEnd)
      × (more : WorkEnd)
      × WorksOver old listener new left one
      × WorkAll olds listeners news others more
      × (end ≡ end_of (one ∷ more ∷ []))
  WorkAll olds listeners news others end = ⊥

module _ {Fixed : Type 0} where
  -- the seats of these ports were cut from a seat, one after the other
  abbrev pub AreCutFrom : SeatState Entry Fixed → List (ServedState Fixed) → SeatState Entry Fixed
      → Type 0
  AreCutFrom before [] after = after ≡ before
  AreCutFrom before (port ∷ ports) after =
      (port.seat ≡ record before { calls = []; exhausted = false; share = 1 })
      × AreCutFrom (record before { share = before.share - 1 }) ports after

  -- a seat met those of these ports, the last one first
  abbrev pub MeetsAll : SeatState Entry Fixed → List (ServedState Fixed) → SeatState Entry Fixed
      → Type 0
  MeetsAll before [] after = after ≡ before
  MeetsAll before (port ∷ ports) after =
      (between : SeatState Entry Fixed)
      × MeetsAll before ports between
      × Meets call_of between port.seat after
