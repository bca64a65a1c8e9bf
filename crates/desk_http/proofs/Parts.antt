-- What is answered by the parts of a request is the answer to the request.
use Rattle.std.proofs.Common.{◌≡◌, ◌∙◌, ℕ, List, Result, Ok, Err, refl, sym, ap, subst}
use Rattle.apron_base.specs.Ends.{SinkState}
use Rattle.apron_base.specs.declared.outside.Acted.{Acted}
use Rattle.apron_base.specs.declared.outside.Acted.TheVariants.{Reply, Memory as NoMemory, Fault, Spent as NoCall}
use Rattle.apron_base.specs.declared.outside.Outcome.{Outcome}
use Rattle.apron_base.specs.declared.outside.Outcome.TheVariants.{WriteFault, Spent}
use Rattle.apron_rules.specs.declared.parts.AirportParts.{AirportParts}
use Rattle.http_framing.specs.Fronts.{ArePartsOf}
use Rattle.http_framing.specs.Requests.{Request}
use Rattle.http_framing.specs.declared.front.RequestParts.{RequestParts}
use Rattle.desk_asks.specs.declared.asks.Ask.{Ask}
use Rattle.desk_words.specs.Early.{early_text}
use Rattle.desk_words.specs.declared.early.EarlyReply.{EarlyReply as EarlyReply}
use Rattle.history_core.specs.Answer.{Given}
use Rattle.desk_http.specs.Answers.{Answers, AnswersTo, Sent, at_once, given, sent_text}
use Rattle.desk_http.specs.Ports.{PortState, ShowsAsk}
use Rattle.desk_http.specs.Replies.{IsAnswered, Writes, WritesActed}
use Rattle.desk_http.specs.Routes.{ask_of_request, asked_by, said_by, said_in}
use Rattle.desk_http.proofs.Asking.{GivesText, fault_gives, memory_gives, reply_gives}

module _ (airport : AirportParts) (came : Result Sent Outcome → PortState → Type 0) (old new : SinkState) where
  -- what came of the request is sent, and its text written
  pub written : (sent : Sent) (text : List ℕ) (result : Result (Unit {0}) Outcome) (port : PortState) → came (Ok sent) port → text ≡ sent_text airport sent
      → Writes text old new result → IsAnswered airport came old new result port
  written sent text (Ok done) port is same wrote = (sent, is, subst (λ t. Writes t old new (Ok done)) same wrote)
  written sent text (Err WriteFault) port is same wrote = (sent, is, subst (λ t. Writes t old new (Err WriteFault)) same wrote)
  written sent text (Err other) port is same wrote = absurd wrote

  -- the port's numbers have run out, and nothing is written
  pub unwritten : (result : Result (Unit {0}) Outcome) (port : PortState) → came (Err Spent) port → (new ≡ old) × (result ≡ Err Spent)
      → IsAnswered airport came old new result port
  unwritten result port is (same, spent) = subst (λ r. IsAnswered airport came old new r port) (sym spent) (is, same)

pub same_said : (request : Request) (parts : RequestParts) → ArePartsOf request parts → said_by parts ≡ said_in request
same_said request parts are = rw (are.method, are.target, are.seen, are.desk, are.body) refl

module _ (asks : AirportParts → PortState → Ask → Given → PortState → Type 0) (airport : AirportParts) (before : PortState)
    (parts : RequestParts) (request : Request) (are : ArePartsOf request parts) where
  by_parts : (asked : Result Ask EarlyReply) → asked ≡ asked_by airport (said_by parts) → asked ≡ ask_of_request airport request
  by_parts asked e = e ∙ ap (asked_by airport) (same_said request parts are)

  module _ (old new : SinkState) (result : Result (Unit {0}) Outcome) where
    gives : (ask : Ask) (text : List ℕ) (after : PortState) → Ok ask ≡ asked_by airport (said_by parts) → GivesText asks airport before after ask text
        → Writes text old new result → IsAnswered airport (Answers asks airport before request) old new result after
    gives ask text after e gave wrote =
        written airport (Answers asks airport before request) old new (given gave.0) text result after
        (subst (λ asked. AnswersTo asks airport before asked (Ok (given gave.0)) after) (by_parts (Ok ask) e) gave.1) gave.2 wrote

    -- an ask is answered as the port gives it
    pub answers_ask : (ask : Ask) (acted : Acted) (after : PortState) → Ok ask ≡ asked_by airport (said_by parts) → ShowsAsk asks airport before ask acted after
        → WritesActed acted old new result → IsAnswered airport (Answers asks airport before request) old new result after
    answers_ask ask (Reply text) after e shows wrote = gives ask text after e (reply_gives asks airport before after ask text shows) wrote
    answers_ask ask NoMemory after e shows wrote = gives ask _ after e (memory_gives asks airport before after ask shows) wrote
    answers_ask ask Fault after e shows wrote = gives ask _ after e (fault_gives asks airport before after ask shows) wrote
    answers_ask ask NoCall after e shows wrote =
        unwritten airport (Answers asks airport before request) old new result after
        (subst (λ asked. AnswersTo asks airport before asked (Err Spent) after) (by_parts (Ok ask) e) shows) wrote

    -- a reply that is fixed before the plan is consulted is sent, and the port stays as it is
    pub answers_early : (early : EarlyReply) → Err early ≡ asked_by airport (said_by parts) → Writes (early_text early) old new result
        → IsAnswered airport (Answers asks airport before request) old new result before
    answers_early early e wrote =
        written airport (Answers asks airport before request) old new (at_once early) _ result before
        (subst (λ asked. AnswersTo asks airport before asked (Ok (at_once early)) before) (by_parts (Err early) e) (refl, refl)) refl wrote
