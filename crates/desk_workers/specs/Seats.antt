-- A seat of a board as a port.
use Rattle.std.specs.Prelude.{◌≡◌, ◌⊎◌, ◌<◌, ◌≤◌, ◌==◌, ℕ, List, [], ◌∷◌, Option, None, Some, map, sum_by, nat_le, nat_lt, if◌then◌else◌}
use Rattle.apron_base.specs.Counts.{last_count}
use Rattle.apron_rules.specs.declared.parts.AirportParts.{AirportParts}
use Rattle.desk_asks.specs.declared.asks.Ask.{Ask}
use Rattle.desk_asks.specs.declared.asks.Entry.{Entry}
use Rattle.history_core.specs.Answer.{Given, keeper_fault}
use Rattle.history_core.specs.History.{call_of}
use Rattle.turn_board.specs.declared.view.Call.{Call}
use Rattle.turn_board.specs.Board.{SeatState, TurnBoardState}
use Rattle.desk_http.specs.Ports.{PortState, Turn}

-- a seat, and the board that it is of, whose machine has such a fixed part
pub record ServedState (Fixed : Type 0) : Type 0 where
  pub board : TurnBoardState Fixed
  pub seat : SeatState Entry Fixed

module _ {Fixed : Type 0} where
  -- the fixed part of the machine
  abbrev pub fixed_of : ServedState Fixed → Fixed
  fixed_of served = served.board.start.fixed

  -- what no call of the seat changes: its board and its share
  abbrev pub board_and_share : ServedState Fixed → TurnBoardState Fixed × ℕ
  board_and_share served = (served.board, served.seat.share)

-- the number of a call
abbrev pub call_number : Call Entry → ℕ
call_number call = call.number

-- how many faults a call tells: one if the machine's count rose over it, and otherwise none; but as
-- many as the last value of a count if it found that value, above which no count rises
abbrev pub faults_of : Call Entry → ℕ
faults_of call =
    if nat_le last_count call.found then last_count
    else (if nat_lt call.found call.left then 1 else 0)

-- the entry that a call of this number put at risk, of what it left at risk: one of its own number
abbrev pub put_by : ℕ → Option Entry → Option Entry
put_by call None = None
put_by call (Some entry) = if call_of entry == call then Some entry else None

-- of two entries the one of the greater number
abbrev pub later_of : Option Entry → Option Entry → Option Entry
later_of None other = other
later_of (Some entry) None = Some entry
later_of (Some entry) (Some other) =
    if nat_lt (call_of other) (call_of entry) then Some entry else Some other

-- of the entries that these calls put at risk the one of the greatest number
abbrev pub latest_at_risk : List (Call Entry) → Option Entry
latest_at_risk [] = None
latest_at_risk (call ∷ calls) = later_of (put_by call.number call.at_risk) (latest_at_risk calls)

-- what a seat tells: its calls have numbers from 1 on; its entry at risk is the latest that one of
-- them put there, even if others have added entries since; and its count of faults is that of its
-- own calls
abbrev pub port_of : {Fixed : Type 0} → ServedState Fixed → PortState
port_of served = record {
  first = 1;
  seen = served.seat.seen;
  at_risk = latest_at_risk served.seat.calls;
  calls = map call_number served.seat.calls;
  spent = served.seat.exhausted;
  faults = sum_by faults_of served.seat.calls;
}

-- the count of faults of a seat's port after something was given: it rose if that was a fault, and
-- otherwise it stayed, or has passed the last value of the machine's count
abbrev pub TellsFaults : Given → ℕ → ℕ → Type 0
TellsFaults keeper_fault before now = before < now
TellsFaults given before now = (now ≡ before) ⊎ (last_count ≤ now)

-- what the port of a seat gives for an ask and becomes: the ask got its turn, and the port counts
-- its fault
abbrev pub SeatTurn : AirportParts → PortState → Ask → Given → PortState → Type 0
SeatTurn airport before ask given after =
    Turn airport before ask given after × TellsFaults given before.faults after.faults
