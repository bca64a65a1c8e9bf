-- One session with feeds: what comes of each request.
use Rattle.std.specs.Prelude.{◌≡◌, not, codes, Option, None, Some, Result, Ok, Err, ok_or}
use Rattle.std.specs.Option.{option_map}
use Rattle.std.specs.Str.{bytes_eq}
use Rattle.apron_base.specs.ResultChain.{◌>>=◌, refuse_if}
use Rattle.apron_base.specs.declared.outside.Outcome.{Outcome}
use Rattle.apron_base.specs.declared.outside.Outcome.TheVariants.{Spent}
use Rattle.apron_rules.specs.declared.parts.AirportParts.{AirportParts}
use Rattle.http_framing.specs.Requests.{Request}
use Rattle.desk_asks.specs.declared.asks.Ask.{Ask}
use Rattle.desk_words.specs.declared.early.EarlyReply.{EarlyReply}
use Rattle.desk_words.specs.declared.early.EarlyReply.TheVariants.{OnlyGet, BadSeen}
use Rattle.history_core.specs.Answer.{Given}
use Rattle.desk_http.specs.Answers.{Answers, Sent, at_once, fed}
use Rattle.desk_http.specs.FeedPorts.{FeedGiven}
use Rattle.desk_http.specs.FeedTargets.{feed_of}
use Rattle.desk_http.specs.Ports.{IsExhausted, PortState}
use Rattle.desk_http.specs.Routes.{Said, said_in}
use Rattle.desk_http.specs.Session.{SessionState, SessionBy}
use Rattle.desk_http.specs.declared.port.Feed.{Feed}
use Rattle.desk_http.specs.declared.port.FeedAsk.{FeedAsk}

-- what is asked with this feed, or the first reply that is fixed: by the method, then by the
-- version that the desk says it has seen
abbrev pub feed_asked_of : Said → Feed → Result FeedAsk EarlyReply
feed_asked_of said feed = do
  taken ← refuse_if (not (bytes_eq said.method (codes "GET"))) OnlyGet
  version ← ok_or said.seen BadSeen
  Ok (record { seen = version; feed = feed })

-- the same by the target, if it names a feed
abbrev pub feed_asked : Said → Option (Result FeedAsk EarlyReply)
feed_asked said = option_map (feed_asked_of said) (feed_of said.target)

-- `asks` says what a port of the airport gives for an ask and what it becomes, `feeds` the same of
-- a feed
module _ (asks : AirportParts → PortState → Ask → Given → PortState → Type 0)
    (feeds : AirportParts → PortState → FeedAsk → FeedGiven → PortState → Type 0) where
  -- what comes of a feed that is asked for, and the port after it
  abbrev pub FeedAnswers : AirportParts → PortState → Result FeedAsk EarlyReply
      → Result Sent Outcome → PortState → Type 0
  FeedAnswers airport before (Err reply) (Ok (at_once sent)) after = (sent ≡ reply)
      × (after ≡ before)
  FeedAnswers airport before (Ok ask) (Ok (fed given)) after = feeds airport before ask given after
  FeedAnswers airport before (Ok ask) (Err Spent) after = IsExhausted before after
  FeedAnswers airport before asked came after = ⊥

  -- what comes of a request that asks for this feed; or for none, and then it is answered as in a
  -- session without feeds
  abbrev pub FedAnswersTo : Option (Result FeedAsk EarlyReply) → AirportParts → PortState → Request
      → Result Sent Outcome → PortState → Type 0
  FedAnswersTo None airport before request came after =
      Answers asks airport before request came after
  FedAnswersTo (Some asked) airport before request came after =
      FeedAnswers airport before asked came after

  -- what comes of a request, and the port after it
  abbrev pub FedAnswers : AirportParts → PortState → Request → Result Sent Outcome → PortState
      → Type 0
  FedAnswers airport before request came after =
      FedAnswersTo (feed_asked (said_in request)) airport before request came after

  -- a session with feeds over a port
  abbrev pub FedSessionOf : AirportParts → SessionState → SessionState → Outcome → Type 0
  FedSessionOf airport before after outcome =
      SessionBy (FedAnswers airport) airport before after outcome
