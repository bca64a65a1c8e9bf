-- One desk alone over a board.
use Rattle.std.specs.Prelude.{◌≡◌, ◌==◌, ◌+◌, ◌-◌, ◌≤◌, ℕ, zero, suc, List, [], ◌∷◌, length}
use Rattle.apron_rules.specs.declared.parts.AirportParts.{AirportParts}
use Rattle.desk_asks.specs.declared.asks.Ask.{Ask}
use Rattle.desk_asks.specs.declared.asks.Entry.{Entry}
use Rattle.apron_base.specs.Counts.{Counts}
use Rattle.apron_base.specs.Histories.{Rises}
use Rattle.apron_base.specs.Keeper.{KeeperState}
use Rattle.apron_base.specs.Machine.{MachineState, Standing}
use Rattle.history_core.specs.Answer.{Given}
use Rattle.history_core.specs.AtRisk.{LeavesAtRisk}
use Rattle.history_core.specs.History.{call_limit, call_of, IsLegal}
use Rattle.history_core.specs.Board.{BoardHeld, machine_state}
use Rattle.desk_http.specs.Ports.{PortState, Turn, is_unkept}

-- a desk alone: its board, and the number that its first call has
pub record AloneHeld (K : Type 0) : Type 0 where
  pub board : BoardHeld K
  pub first : ℕ

-- what is true at a machine that a desk has to itself, by its airport, its history, the least
-- number of its next call and the number of the desk's first one: the calls come from the first
-- number on, the history is legal and numbered below the next call
pub record IsAlone (airport : AirportParts) (history : List Entry) (next first : ℕ) : Type 0 where
  pub begun : first ≤ next
  pub numbers : Rises call_of 1 next history
  pub legal : IsLegal airport history

-- this many numbers from the first on, in order
abbrev pub numbers_from : ℕ → ℕ → List ℕ
numbers_from first zero = []
numbers_from first (suc count) = first ∷ numbers_from (first + 1) count

-- what a desk tells that has a machine in this state to itself, and whose first call has this
-- number: it has seen the machine's history, the entry at risk is the machine's, its calls are the
-- numbers from the first up to the machine's next, and its count of faults is the machine's
abbrev pub port_over : {Fixed : Type 0} → ℕ → MachineState Entry Fixed → PortState
port_over first machine = record {
  first = first;
  seen = machine.history;
  at_risk = machine.at_risk;
  calls = numbers_from first (machine.next - first);
  spent = machine.next == call_limit;
  faults = machine.faults;
}

-- what a desk alone tells over its board, by what the board's keeper tells
abbrev pub alone_port : {K : Type 0} → (K → KeeperState) → AloneHeld K → PortState
alone_port tells alone = port_over alone.first (machine_state tells alone.board)

-- the state of a port: what it has seen, and the entry at risk after it
abbrev pub standing_of : PortState → Standing Entry
standing_of port = record { entries = port.seen; at_risk = port.at_risk }

-- an ask of a desk alone gets its turn at the history that it has seen, and with the next number.
-- An entry comes to be at risk only if it is the one that was asked for and could not be kept, and
-- is at risk no more once another is added. The count of faults rises, or is at its greatest value,
-- if the entry could not be kept; otherwise it is as before
abbrev pub AloneAsks : AirportParts → PortState → Ask → Given → PortState → Type 0
AloneAsks airport before ask given after =
    (turn : Turn airport before ask given after)
    × (turn.history ≡ before.seen)
    × (turn.call ≡ before.first + length before.calls)
    × LeavesAtRisk (standing_of before) turn.call ask.what (is_unkept given) (standing_of after)
    × Counts (is_unkept given) before.faults after.faults
