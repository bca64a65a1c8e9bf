-- One desk alone over a board with something around it.
use Rattle.std.specs.Prelude.{◌≡◌, ◌<◌, ℕ, List, IfSome}
use Rattle.apron_base.specs.Histories.{Rises}
use Rattle.apron_base.specs.Machine.{Acts, ActsAtRisk, MachineState, history_at_risk_of, is_fault}
use Rattle.apron_base.specs.declared.outside.Acted.{Acted}
use Rattle.apron_rules.specs.declared.parts.AirportParts.{AirportParts}
use Rattle.desk_asks.specs.declared.asks.Entry.{Entry}
use Rattle.history_core.specs.Answer.{no_memory}
use Rattle.history_core.specs.History.{call_limit}
use Rattle.turn_board.specs.Board.{AskAndAnswer}
use Rattle.desk_http.specs.Alone.{AloneAsks}
use Rattle.desk_http.specs.FeedPorts.{FeedGiven, version_ask}
use Rattle.desk_http.specs.Ports.{PortState}
use Rattle.desk_http.specs.declared.port.FeedAsk.{FeedAsk}

-- a machine that a desk has to itself, and the number of the desk's first call
pub record AloneMachine (M : Type 0) : Type 0 where
  pub machine : M
  pub first : ℕ

-- what an act with the number of the next call does to a machine, as the machine's own relations
-- say
pub record ActsNext {Entry Fixed Asks : Type 0} (number : Entry → ℕ) (adds : Asks → Entry → Type 0)
    (answers : Fixed → List Entry → ℕ → Asks → Acted → List Entry → Type 0)
    (before : MachineState Entry Fixed) (asked : AskAndAnswer Asks)
    (after : MachineState Entry Fixed) : Type 0 where
  pub last : before.next < call_limit
  pub numbers : Rises number 1 before.next before.history
  pub acts : Acts number before after before.next asked.answer
  pub at_risk : ActsAtRisk (λ entry. (number entry ≡ before.next) × adds asked.ask entry)
      (is_fault asked.answer) (history_at_risk_of before) (history_at_risk_of after)
  pub answered : answers before.fixed before.history before.next asked.ask
      asked.answer after.history

-- what the port of a desk alone gives for a feed, and what it becomes. `text` says what the reply
-- to each feed is at each history. The port becomes what it is after an ask of the version that
-- memory ran out for; the feed gets the reply at the history that the port has seen, or memory ran
-- out
abbrev pub AloneFeeds : (FeedAsk → List Entry → List ℕ) → AirportParts → PortState → FeedAsk
    → FeedGiven → PortState → Type 0
AloneFeeds text airport before ask given after =
    AloneAsks airport before version_ask no_memory after
    × IfSome given (λ told. told ≡ text ask before.seen)
