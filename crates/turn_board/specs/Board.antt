-- Boards and seats as callers see them.
use Rattle.std.specs.Prelude.{◌≡◌, ◌⊎◌, ℕ, ◌+◌, ◌<◌, ◌≤◌, List, [], ◌∷◌, ◌++◌, Bool, true, false, ◌||◌, Option, Some, IfSome}
use Rattle.std.specs.List.{Any, sum_by}
use Rattle.atomic_table.specs.Seated.{TableId}
use Rattle.apron_base.specs.Histories.{Every, Rises}
use Rattle.apron_base.specs.Machine.{Acts, ActsAtRisk, MachineState, history_at_risk_of, is_fault}
use Rattle.apron_base.specs.declared.outside.Acted.{Acted}
use Rattle.turn_board.specs.declared.view.Call.{Call}
use Rattle.turn_board.specs.declared.view.Start.{Start}
use Rattle.turn_board.specs.declared.view.View.{View}
use Rattle.turn_board.specs.Plays.{DoNotOverlap}
use Rattle.turn_board.specs.Rule.{Extends}
use Rattle.turn_board.specs.Totals.{AreBelow, below, rise_of, times}
use Rattle.turn_board.specs.Views.{all_shares, call_end, start_of}

-- a board: its table, which no other board has, and the machine's fixed part, first number and
-- first count of faults
pub record TurnBoardState (Fixed : Type 0) : Type 0 where
  pub table : TableId
  pub start : Start Fixed

-- a seat: the table of its board, what it knows of the board's start, the history that it has seen,
-- its own calls in order, whether it found the numbers run out, and its share
pub record SeatState (Entry Fixed : Type 0) : Type 0 where
  pub table : TableId
  pub start : Option (Start Fixed)
  pub seen : List Entry
  pub calls : List (Call Entry)
  pub exhausted : Bool
  pub share : ℕ

-- what was asked, and the answer
pub record AskAndAnswer (Ask : Type 0) : Type 0 where
  pub ask : Ask
  pub answer : Acted

module _ {Entry Fixed : Type 0} where
  -- a seat of this table with this view
  abbrev pub seat_of : TableId → View Entry Fixed → SeatState Entry Fixed
  seat_of table view = record {
    table = table;
    start = view.start;
    seen = view.seen;
    calls = view.calls;
    exhausted = view.exhausted;
    share = view.share;
  }

  -- the seat belongs to the board
  pub record Sits (board : TurnBoardState Fixed) (seat : SeatState Entry Fixed) : Type 0 where
    pub table : seat.table ≡ board.table
    pub start : seat.start ≡ Some board.start

  -- a board that was made with this machine, and its first seat
  pub record OpensTurnBoard (machine : MachineState Entry Fixed) (board : TurnBoardState Fixed)
      (seat : SeatState Entry Fixed) : Type 0 where
    pub start : board.start ≡ start_of machine
    pub first : seat
        ≡ record {
          table = board.table;
          start = Some board.start;
          seen = machine.history;
          calls = [];
          exhausted = false;
          share = all_shares;
        }

-- a call that got its turn, with its ticket and the machine as it was found and left: the ticket is
-- new; the machine was found with all that the seat had seen; it answered by its own relation; an
-- entry that it put at risk is one that was asked for; and the seat has then seen what it left
pub record GotTurn {M Entry Fixed Ask : Type 0} (state : M → MachineState Entry Fixed)
    (number : Entry → ℕ) (adds : Ask → Entry → Type 0)
    (answers : Fixed → List Entry → ℕ → Ask → Acted → List Entry → Type 0)
    (before : SeatState Entry Fixed) (asked : AskAndAnswer Ask)
    (after : SeatState Entry Fixed) : Type 0 where
  pub found : M
  pub left : M
  pub ticket : ℕ
  pub note : before.exhausted ≡ false
  pub new : AreBelow ticket before.calls
  pub end : ticket < call_end
  pub extends : Extends number (state found).history before.seen before.calls
  pub rises : Rises number 1 ticket (state found).history
  pub next : (state found).next ≤ ticket
  pub start : (start : Start Fixed)
      → before.start ≡ Some start
      → ((state found).fixed ≡ start.fixed) × (start.faults ≤ (state found).faults)
  pub faults : Every (λ (call : Call Entry). call.left ≤ (state found).faults) before.calls
  pub older : IfSome (state found).at_risk (λ entry. number entry < ticket)
  pub at_risk : ActsAtRisk (λ entry. (number entry ≡ ticket) × adds asked.ask entry)
      (is_fault asked.answer) (history_at_risk_of (state found)) (history_at_risk_of (state left))
  pub acts : Acts number (state found) (state left) ticket asked.answer
  pub answered : answers (state found).fixed (state found).history ticket asked.ask asked.answer
      (state left).history
  pub seen : after.seen ≡ (state left).history
  pub calls : after.calls
      ≡ before.calls
      ++ record {
        number = ticket;
        found = (state found).faults;
        left = (state left).faults;
        at_risk = (state left).at_risk;
      } ∷ []

-- two seats made one: one of their histories goes on from the other, and is seen; all calls are now
-- the seat's own, with no number twice, and counts that do not overlap
pub record Meets {Entry Fixed : Type 0} (number : Entry → ℕ)
    (before other after : SeatState Entry Fixed) : Type 0 where
  pub one : (after.seen ≡ before.seen) ⊎ (after.seen ≡ other.seen)
  pub mine : Extends number after.seen before.seen before.calls
  pub theirs : Extends number after.seen other.seen other.calls
  pub calls : after.calls ≡ before.calls ++ other.calls
  pub once : (call : ℕ) → times call after.calls ≤ 1
  pub faults : DoNotOverlap after.calls
  pub note : after.exhausted ≡ (before.exhausted || other.exhausted)
  pub share : after.share ≡ before.share + other.share

-- an entry that one of these calls put at risk after a history: it has the number of that call,
-- which left it as the later calls did, and each entry of the history has a lower number
pub record IsPutAtRisk {Entry : Type 0} (number : Entry → ℕ) (calls : List (Call Entry))
    (history : List Entry) (entry : Entry) : Type 0 where
  pub by : Any (λ (call : Call Entry). call.number ≡ number entry) calls
  pub stays : Every (λ (call : Call Entry). number entry ≤ call.number → call.at_risk ≡ Some entry)
      calls
  pub since : Rises number 1 (number entry) history

-- the machine that a closed board leaves to the seat that took all others in: its history is what
-- the seat has seen; the seat's calls use each number exactly once from the first one on, and all
-- numbers if they had run out; its count of faults rose over the calls and at no other time; and an
-- entry at risk was put there by one of the calls
pub record Closes {Entry Fixed : Type 0} (number : Entry → ℕ) (board : TurnBoardState Fixed)
    (seat : SeatState Entry Fixed) (machine : MachineState Entry Fixed) : Type 0 where
  pub end : ℕ
  pub calls : (call : ℕ) → times call seat.calls + below call board.start.first ≡ below call end
  pub order : (board.start.first ≤ end) × (end ≤ call_end)
  pub exhausted : seat.exhausted ≡ true → end ≡ call_end
  pub history : machine.history ≡ seat.seen
  pub fixed : machine.fixed ≡ board.start.fixed
  pub next : machine.next ≤ end
  pub rose : machine.faults ≡ board.start.faults + sum_by rise_of seat.calls
  pub faults : Every
      (λ (call : Call Entry). (board.start.faults ≤ call.found)
      × (call.found ≤ call.left)
      × (call.left ≤ machine.faults))
      seat.calls
  pub at_risk : IfSome machine.at_risk (IsPutAtRisk number seat.calls machine.history)
