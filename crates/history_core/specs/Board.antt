-- A board as contracts see it, and what its keeper exposes.
use Rattle.std.specs.Prelude.{◌≡◌, ◌≤◌, ◌+◌, ℕ, List, map, length, Option, IfSome, None}
use Rattle.std.specs.Option.{option_map}
use Rattle.apron_base.specs.Counts.{Counts}
use Rattle.apron_base.specs.Histories.{Every, Rises}
use Rattle.apron_base.specs.Keeper.{KeeperState, with_last}
use Rattle.apron_base.specs.declared.numbers.PartId.{PartId}
use Rattle.apron_base.specs.Machine.{MachineState, history_at_risk_of, is_fault}
use Rattle.apron_base.specs.declared.outside.Acted.{Acted}
use Rattle.apron_rules.specs.declared.parts.AirportParts.{AirportParts}
use Rattle.plan_core.specs.PlanState.{PlanState}
use Rattle.desk_asks.specs.declared.asks.Ask.{Ask}
use Rattle.desk_asks.specs.declared.asks.Entry.{Entry}
use Rattle.desk_asks.specs.declared.asks.What.{What}
use Rattle.entry_bytes.specs.Entries.{IsEntryOf, entry_text}
use Rattle.history_core.specs.Answer.{ActsAs, ActsOn, IsTold, Sought, ask_outcome}
use Rattle.history_core.specs.AtRisk.{LeavesAtRisk}
use Rattle.history_core.specs.Bumped.{last_bumped}
use Rattle.history_core.specs.History.{IsLegal, call_limit, call_of, replay}

-- its keeper, its airport, its history, the entry at risk after it, and the least number of its next
-- call
pub record BoardHeld (K : Type 0) : Type 0 where
  pub keeper : K
  pub airport : AirportParts
  pub history : List Entry
  pub at_risk : Option Entry
  pub next : ℕ

-- the bytes of each entry, in order
abbrev pub entry_texts : List Entry → List (List ℕ)
entry_texts history = map entry_text history

-- these bytes are those of this history, entry for entry, and each entry is one of the airport
abbrev pub Spells : AirportParts → List (List ℕ) → List Entry → Type 0
Spells airport entries history =
    (entries ≡ entry_texts history) × Every (IsEntryOf airport) history

-- an entry of the airport with which the history is still legal
pub record CanFollow (airport : AirportParts) (history : List Entry) (entry : Entry) : Type 0 where
  pub is : IsEntryOf airport entry
  pub legal : IsLegal airport (with_last entry history)

-- a keeper of the history and of the entry at risk: its entries, if it exposes them, are the bytes
-- of the history's entries, and it counts as many; its bytes at risk are those of the entry at
-- risk, which can come next; and there is none at risk as long as no call has failed
pub record IsKeeperOf (airport : AirportParts) (history : List Entry) (at_risk : Option Entry)
    (keeper : KeeperState) : Type 0 where
  pub entries : IfSome keeper.entries (λ entries. entries ≡ entry_texts history)
  pub each : Every (IsEntryOf airport) history
  pub number : keeper.number ≡ length history
  pub at_risk_is : keeper.at_risk ≡ option_map entry_text at_risk
  pub follows : IfSome at_risk (CanFollow airport history)
  pub safe : keeper.faults ≡ 0 → at_risk ≡ None

-- what holds of every board, with its plan, the parts that it keeps as bumped, and what its keeper
-- exposes: its history is legal, the plan is what the history makes, the parts lost their stands by
-- the last entry, the entries are of calls before the next one, and the keeper keeps them
pub record IsBoard {K : Type 0} (plan : PlanState) (bumped : List PartId) (keeper : KeeperState)
    (board : BoardHeld K) : Type 0 where
  pub legal : IsLegal board.airport board.history
  pub plan_is : plan ≡ replay board.airport board.history
  pub bumped_is : bumped ≡ last_bumped plan
  pub numbers : Rises call_of 1 board.next board.history
  pub calls : board.next ≤ call_limit
  pub kept : IsKeeperOf board.airport board.history board.at_risk keeper

-- a board as a machine, by what its keeper exposes: no call changes its airport, and it fails if the
-- keeper does
abbrev pub machine_state : {K : Type 0} → (K → KeeperState) → BoardHeld K
    → MachineState Entry AirportParts
machine_state tells board = record {
  fixed = board.airport;
  history = board.history;
  at_risk = board.at_risk;
  next = board.next;
  faults = (tells board.keeper).faults;
}

-- What an act with this call number does to a board, by what its keeper exposes: it shows what is
-- given for what is sought. The keeper failed exactly if the act says so, and then the entry that
-- was asked for may be at risk. The airport stays, and the next call may have the number after this
-- one.
pub record ActsOnBoard {K : Type 0} (tells : K → KeeperState) (before after : BoardHeld K)
    (call : ℕ) (what : What) (asked : Sought) (acted : Acted) : Type 0 where
  pub acts : ActsOn before.airport before.history call asked acted after.history
  pub airport : after.airport ≡ before.airport
  pub faults : Counts (is_fault acted) (tells before.keeper).faults (tells after.keeper).faults
  pub at_risk : LeavesAtRisk (history_at_risk_of (machine_state tells before)) call what
      (is_fault acted) (history_at_risk_of (machine_state tells after))
  pub next : after.next ≤ call + 1

-- What an ask of this call number does to a board, by what its keeper exposes: it is answered at
-- the board's history, which was legal and still is. The keeper failed exactly if the answer says
-- so, and then the entry that was asked for may be at risk. A question leaves all as it is but the
-- number of the next call.
pub record AsksBoard {K : Type 0} (tells : K → KeeperState) (before after : BoardHeld K) (call : ℕ)
    (ask : Ask) (acted : Acted) : Type 0 where
  pub acts : ActsAs before.airport before.history call ask acted after.history
  pub airport : after.airport ≡ before.airport
  pub found : IsLegal before.airport before.history
  pub legal : IsLegal after.airport after.history
  pub faults : Counts (is_fault acted) (tells before.keeper).faults (tells after.keeper).faults
  pub at_risk : LeavesAtRisk (history_at_risk_of (machine_state tells before)) call ask.what
      (is_fault acted) (history_at_risk_of (machine_state tells after))
  pub question : IsTold (ask_outcome (replay before.airport before.history) before.history ask)
      → after ≡ record before { next = after.next }
