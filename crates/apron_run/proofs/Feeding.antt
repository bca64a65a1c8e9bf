-- A feed in a session of a desk alone counts as an ask of the version for which memory ran out.
use Rattle.std.proofs.Common.{◌≡◌, Bool, true, false, Option, None, Some, Result, Ok, Err, refl}
use Rattle.std.specs.Prelude.{is_ok, option_map, unwrap_or}
use Rattle.apron_base.specs.declared.outside.Outcome.{Outcome}
use Rattle.apron_base.specs.declared.outside.Outcome.TheVariants.{Memory, Spent}
use Rattle.apron_rules.specs.declared.parts.AirportParts.{AirportParts}
use Rattle.http_framing.specs.Requests.{Request}
use Rattle.desk_asks.specs.declared.asks.Ask.{Ask}
use Rattle.desk_words.specs.declared.early.EarlyReply.{EarlyReply}
use Rattle.history_core.specs.Answer.{no_memory}
use Rattle.desk_http.specs.Alone.{AloneAsks}
use Rattle.desk_http.specs.Answers.{AnswersTo, Sent, TakesMemory, at_once, fed, given}
use Rattle.desk_http.specs.FedSession.{FedAnswers, FedAnswersTo, feed_asked}
use Rattle.desk_http.specs.FeedPorts.{version_ask}
use Rattle.desk_http.specs.Ports.{IsExhausted, PortState}
use Rattle.desk_http.specs.Routes.{ask_of_request, said_in}
use Rattle.desk_http.specs.declared.port.FeedAsk.{FeedAsk}
use Rattle.desk_workers.specs.Alone.{AloneFeeds}
use Rattle.desk_workers.specs.Watched.{FeedTexts}
use Rattle.apron_run.specs.Complete.{takes_number}

-- what comes of a request to a desk alone at the airport, and its port after it
abbrev pub DeskAnswers : FeedTexts → AirportParts → PortState → Request → Result Sent Outcome → PortState → Type 0
DeskAnswers feeds airport before request came after = FedAnswers AloneAsks (AloneFeeds (feeds airport)) airport before request came after

-- what is sent for a request, and the port after it
abbrev pub Sends : FeedTexts → AirportParts → PortState → Request → Sent → PortState → Type 0
Sends feeds airport before request sent after = DeskAnswers feeds airport before request (Ok sent) after

-- whether a reply was given by the board, to an ask or to a feed
abbrev pub is_given : Sent → Bool
is_given (at_once reply) = false
is_given (given answer) = true
is_given (fed answer) = true

-- what was sent, and what an ask without feeds is sent that leaves the port alike: both count alike
pub record AsPlain (airport : AirportParts) (asking : Bool) (before : PortState) (sent : Sent) (after : PortState) : Type 0 where
  pub asked : Result Ask EarlyReply
  pub like : Sent
  pub sends_like : AnswersTo AloneAsks airport before asked (Ok like) after
  pub asks : is_ok asked ≡ asking
  pub gives : is_given like ≡ is_given sent

-- a request found the port's numbers exhausted
pub record FindsSpent (asking : Bool) (before after : PortState) : Type 0 where
  pub asks : asking ≡ true
  pub exhausted : IsExhausted before after

module _ (feeds : FeedTexts) (airport : AirportParts) where
  -- what comes of a request that asks for this feed, or for none
  abbrev ComesTo : Option (Result FeedAsk EarlyReply) → PortState → Request → Result Sent Outcome → PortState → Type 0
  ComesTo feed before request came after = FedAnswersTo AloneAsks (AloneFeeds (feeds airport)) feed airport before request came after

  sent_as : (feed : Option (Result FeedAsk EarlyReply)) (before : PortState) (request : Request) (sent : Sent) (after : PortState)
      → ComesTo feed before request (Ok sent) after → AsPlain airport (unwrap_or (option_map is_ok feed) (is_ok (ask_of_request airport request))) before sent after
  sent_as None before request sent after comes = record {
    asked = ask_of_request airport request;
    like = sent;
    sends_like = comes;
    asks = refl;
    gives = refl;
  }
  sent_as (Some (Err early)) before request (at_once reply) after comes = record {
    asked = Err early;
    like = at_once reply;
    sends_like = comes;
    asks = refl;
    gives = refl;
  }
  sent_as (Some (Err early)) before request (given answer) after comes = absurd comes
  sent_as (Some (Err early)) before request (fed answer) after comes = absurd comes
  sent_as (Some (Ok ask)) before request (fed answer) after (asks, gives) = record {
    asked = Ok version_ask;
    like = given no_memory;
    sends_like = asks;
    asks = refl;
    gives = refl;
  }
  sent_as (Some (Ok ask)) before request (at_once reply) after comes = absurd comes
  sent_as (Some (Ok ask)) before request (given answer) after comes = absurd comes

  -- what is sent for a request
  pub as_plain : (before : PortState) (request : Request) (sent : Sent) (after : PortState) → Sends feeds airport before request sent after
      → AsPlain airport (takes_number airport request) before sent after
  as_plain before request sent after comes = sent_as (feed_asked (said_in request)) before request sent after comes

  plain_spent : (asked : Result Ask EarlyReply) (before after : PortState) → AnswersTo AloneAsks airport before asked (Err Spent) after → FindsSpent (is_ok asked) before after
  plain_spent (Err early) before after finds = absurd finds
  plain_spent (Ok ask) before after finds = record { asks = refl; exhausted = finds }

  spent_as : (feed : Option (Result FeedAsk EarlyReply)) (before : PortState) (request : Request) (after : PortState) → ComesTo feed before request (Err Spent) after
      → FindsSpent (unwrap_or (option_map is_ok feed) (is_ok (ask_of_request airport request))) before after
  spent_as None before request after comes = plain_spent (ask_of_request airport request) before after comes
  spent_as (Some (Err early)) before request after comes = absurd comes
  spent_as (Some (Ok ask)) before request after comes = record { asks = refl; exhausted = comes }

  -- only a request that takes a number finds them exhausted
  pub finds_spent : (before : PortState) (request : Request) (after : PortState) → DeskAnswers feeds airport before request (Err Spent) after
      → FindsSpent (takes_number airport request) before after
  finds_spent before request after comes = spent_as (feed_asked (said_in request)) before request after comes

  unread_as : (feed : Option (Result FeedAsk EarlyReply)) (before : PortState) (request : Request) (after : PortState) → ComesTo feed before request (Err Memory) after
      → TakesMemory request × (after ≡ before)
  unread_as None before request after comes = comes
  unread_as (Some (Err early)) before request after comes = absurd comes
  unread_as (Some (Ok ask)) before request after comes = absurd comes

  -- only a request whose body takes memory is not read, and that leaves the port
  pub not_read : (before : PortState) (request : Request) (after : PortState) → DeskAnswers feeds airport before request (Err Memory) after
      → TakesMemory request × (after ≡ before)
  not_read before request after comes = unread_as (feed_asked (said_in request)) before request after comes
