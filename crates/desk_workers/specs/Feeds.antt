-- What a machine answers to feeds, and what the port of a seat gives for them.
use Rattle.std.specs.Prelude.{◌≡◌, ◌≢◌, ℕ, List}
use Rattle.apron_base.specs.declared.outside.Acted.{Acted}
use Rattle.apron_base.specs.declared.outside.Acted.TheVariants.{Reply, Fault}
use Rattle.apron_rules.specs.declared.parts.AirportParts.{AirportParts}
use Rattle.desk_asks.specs.declared.asks.Ask.{Ask}
use Rattle.desk_asks.specs.declared.asks.Entry.{Entry}
use Rattle.history_core.specs.Answer.{Given, no_memory}
use Rattle.history_core.specs.History.{IsLegal}
use Rattle.desk_http.specs.FeedPorts.{FeedGiven, FeedTurn}
use Rattle.desk_http.specs.FedSession.{FedAnswers}
use Rattle.desk_http.specs.Ports.{PortState}
use Rattle.desk_http.specs.Session.{SessionKind}
use Rattle.desk_http.specs.declared.port.FeedAsk.{FeedAsk}
use Rattle.desk_workers.specs.Seats.{SeatTurn, TellsFaults}

-- A feed, if `text` says what its reply is at each history: it found a history that is legal at the
-- airport, got no reply but its own there, did not fail, and left the history.
pub record IsLegalFeed (airport : AirportParts) (text : List Entry → List ℕ) (before : List Entry)
    (answer : Acted) (after : List Entry) : Type 0 where
  pub found : IsLegal airport before
  pub fed : (bytes : List ℕ) → answer ≡ Reply bytes → bytes ≡ text before
  pub fine : answer ≢ Fault
  pub left : after ≡ before

-- what the port of a seat gives for a feed and becomes, if `text` says what the reply to each feed
-- is at each history: the feed got its turn, and no fault
abbrev pub FeedTurns : (FeedAsk → List Entry → List ℕ) → AirportParts → PortState → FeedAsk
    → FeedGiven → PortState → Type 0
FeedTurns text airport before ask given after =
    FeedTurn airport (text ask) before given after
    × TellsFaults no_memory before.faults after.faults

-- the sessions with feeds over a port of the airport: `asks` says what it gives for an ask and what
-- it becomes, `feeds` the same of a feed
abbrev pub fed_kind : (AirportParts → PortState → Ask → Given → PortState → Type 0)
    → (AirportParts → PortState → FeedAsk → FeedGiven → PortState → Type 0) → AirportParts
    → SessionKind
fed_kind asks feeds airport =
    record { airport = airport; comes = FedAnswers asks feeds airport }

-- the same by what is fixed of the port and its airport
abbrev pub kinds_at : {Fixed : Type 0}
    → (AirportParts → PortState → Ask → Given → PortState → Type 0)
    → (Fixed → AirportParts → PortState → FeedAsk → FeedGiven → PortState → Type 0)
    → Fixed × AirportParts → SessionKind
kinds_at asks feeds at = fed_kind asks (feeds at.0) at.1

-- the sessions over the port of a seat at the airport, if `text` says what the reply to each feed is
-- at each history
abbrev pub seat_sessions : (FeedAsk → List Entry → List ℕ) → AirportParts → SessionKind
seat_sessions text airport = fed_kind SeatTurn (FeedTurns text) airport
