-- What is answered by the parts of a request in a session with feeds is the answer to the request.
use Rattle.std.proofs.Common.{◌≡◌, ◌∙◌, Option, Some, None, Result, Ok, Err, refl, ap, subst}
use Rattle.apron_base.specs.Ends.{SinkState}
use Rattle.apron_base.specs.declared.outside.Acted.{Acted}
use Rattle.apron_base.specs.declared.outside.Acted.TheVariants.{Reply, Memory as NoMemory, Fault, Spent as NoCall}
use Rattle.apron_base.specs.declared.outside.Outcome.{Outcome}
use Rattle.apron_base.specs.declared.outside.Outcome.TheVariants.{Spent}
use Rattle.apron_rules.specs.declared.parts.AirportParts.{AirportParts}
use Rattle.http_framing.specs.Fronts.{ArePartsOf}
use Rattle.http_framing.specs.Requests.{Request}
use Rattle.http_framing.specs.declared.front.RequestParts.{RequestParts}
use Rattle.desk_asks.specs.declared.asks.Ask.{Ask}
use Rattle.desk_words.specs.Early.{early_text}
use Rattle.desk_words.specs.declared.early.EarlyReply.{EarlyReply as EarlyReply}
use Rattle.history_core.specs.Answer.{Given}
use Rattle.desk_http.specs.Answers.{at_once, fed}
use Rattle.desk_http.specs.FedSession.{FedAnswers, FedAnswersTo, feed_asked}
use Rattle.desk_http.specs.FeedPorts.{FeedGiven, ShowsFeed, feed_given_text}
use Rattle.desk_http.specs.Ports.{PortState}
use Rattle.desk_http.specs.Replies.{IsAnswered, Writes, WritesActed}
use Rattle.desk_http.specs.Routes.{said_by, said_in}
use Rattle.desk_http.specs.declared.port.FeedAsk.{FeedAsk}
use Rattle.desk_http.proofs.Parts.{same_said, unwritten, written}

module _ (asks : AirportParts → PortState → Ask → Given → PortState → Type 0) (feeds : AirportParts → PortState → FeedAsk → FeedGiven → PortState → Type 0)
    (airport : AirportParts) (before : PortState) (parts : RequestParts) (request : Request) (are : ArePartsOf request parts) where
  by_parts : (asked : Option (Result FeedAsk EarlyReply)) → asked ≡ feed_asked (said_by parts) → asked ≡ feed_asked (said_in request)
  by_parts asked e = e ∙ ap feed_asked (same_said request parts are)

  module _ (old new : SinkState) (result : Result (Unit {0}) Outcome) where
    gives : (ask : FeedAsk) (told : FeedGiven) (after : PortState) → Some (Ok ask) ≡ feed_asked (said_by parts) → feeds airport before ask told after
        → Writes (feed_given_text told) old new result → IsAnswered airport (FedAnswers asks feeds airport before request) old new result after
    gives ask told after e gave wrote =
        written airport (FedAnswers asks feeds airport before request) old new (fed told) _ result after
        (subst (λ asked. FedAnswersTo asks feeds asked airport before request (Ok (fed told)) after) (by_parts (Some (Ok ask)) e) gave) refl wrote

    -- a feed is answered as the port gives it
    pub answers_feed : (ask : FeedAsk) (acted : Acted) (after : PortState) → Some (Ok ask) ≡ feed_asked (said_by parts)
        → ShowsFeed (feeds airport) before ask acted after → WritesActed acted old new result
        → IsAnswered airport (FedAnswers asks feeds airport before request) old new result after
    answers_feed ask (Reply text) after e shows wrote = gives ask (Some text) after e shows wrote
    answers_feed ask NoMemory after e shows wrote = gives ask None after e shows wrote
    answers_feed ask Fault after e shows wrote = absurd shows
    answers_feed ask NoCall after e shows wrote =
        unwritten airport (FedAnswers asks feeds airport before request) old new result after
        (subst (λ asked. FedAnswersTo asks feeds asked airport before request (Err Spent) after) (by_parts (Some (Ok ask)) e) shows) wrote

    -- a reply that is fixed before the port is asked is sent, and the port stays as it is
    pub answers_early : (early : EarlyReply) → Some (Err early) ≡ feed_asked (said_by parts) → Writes (early_text early) old new result
        → IsAnswered airport (FedAnswers asks feeds airport before request) old new result before
    answers_early early e wrote =
        written airport (FedAnswers asks feeds airport before request) old new (at_once early) _ result before
        (subst (λ asked. FedAnswersTo asks feeds asked airport before request (Ok (at_once early)) before) (by_parts (Some (Err early)) e) (refl, refl)) refl wrote
