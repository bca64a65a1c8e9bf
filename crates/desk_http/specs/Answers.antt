-- What comes of a request.
use Rattle.std.specs.Prelude.{◌≡◌, ℕ, List, Result, Ok, Err}
use Rattle.apron_base.specs.declared.outside.Outcome.{Outcome}
use Rattle.apron_base.specs.declared.outside.Outcome.TheVariants.{Spent, Memory}
use Rattle.apron_rules.specs.declared.parts.AirportParts.{AirportParts}
use Rattle.http_framing.specs.Requests.{Request}
use Rattle.desk_words.specs.Early.{early_text}
use Rattle.desk_asks.specs.declared.asks.Ask.{Ask}
use Rattle.desk_words.specs.declared.early.EarlyReply.{EarlyReply}
use Rattle.history_core.specs.Answer.{Given, given_text}
use Rattle.desk_http.specs.FeedPorts.{FeedGiven, feed_given_text}
use Rattle.desk_http.specs.Ports.{PortState, IsExhausted}
use Rattle.desk_http.specs.Routes.{ReadsBody, ask_of_request, said_in}

-- what is sent for a request: a reply that is fixed before the plan is consulted, or what the port
-- gave for an ask or a feed
pub data Sent : Type 0 where
  at_once : EarlyReply → Sent
  given : Given → Sent
  fed : FeedGiven → Sent

-- the bytes of what is sent
abbrev pub sent_text : AirportParts → Sent → List ℕ
sent_text airport (at_once reply) = early_text reply
sent_text airport (given answer) = given_text airport answer
sent_text airport (fed feed) = feed_given_text feed

-- the body of the request is read as JSON, which takes memory
abbrev pub TakesMemory : Request → Type 0
TakesMemory request = ReadsBody (said_in request)

-- `asks` says what a port of the airport gives for an ask and what it becomes
module _ (asks : AirportParts → PortState → Ask → Given → PortState → Type 0)
    (airport : AirportParts) where
  -- what comes of what is asked, and the port after it: this is sent, or the session ends so, as
  -- it does if the port's numbers have run out
  abbrev pub AnswersTo : PortState → Result Ask EarlyReply → Result Sent Outcome → PortState → Type 0
  AnswersTo before (Err reply) (Ok (at_once sent)) after = (sent ≡ reply) × (after ≡ before)
  AnswersTo before (Ok ask) (Ok (given answer)) after = asks airport before ask answer after
  AnswersTo before (Ok ask) (Err Spent) after = IsExhausted before after
  AnswersTo before asked came after = ⊥

  -- what comes of a request, and the port after it; the session ends too if no memory is there to
  -- read the request
  abbrev pub Answers : PortState → Request → Result Sent Outcome → PortState → Type 0
  Answers before request (Err Memory) after = TakesMemory request × (after ≡ before)
  Answers before request came after =
      AnswersTo before (ask_of_request airport request) came after
