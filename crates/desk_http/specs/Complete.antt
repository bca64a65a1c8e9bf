-- Completeness: a session that nothing hinders answers all requests of its input, up to a million,
-- and comes to its end.
use Rattle.std.specs.Prelude.{◌≡◌, All, ℕ, false, List, [], ◌++◌, length, take, Some, Result, Ok}
use Rattle.apron_base.specs.Counts.{Rose}
use Rattle.apron_base.specs.Ends.{Wrote}
use Rattle.apron_base.specs.declared.outside.Outcome.{Outcome}
use Rattle.apron_base.specs.declared.outside.Outcome.TheVariants.{Ended, Closed, Cut, Malformed, Limit, Spent, Memory}
use Rattle.apron_rules.specs.declared.parts.AirportParts.{AirportParts}
use Rattle.http_framing.specs.declared.bodies.RequestRefusal.{RequestRefusal}
use Rattle.http_framing.specs.Requests.{Request}
use Rattle.http_framing.specs.Streams.{Ending, ended, cut, closed, malformed, IsOpen, Requests}
use Rattle.desk_asks.specs.declared.asks.Ask.{Ask}
use Rattle.history_core.specs.Answer.{Given}
use Rattle.desk_http.specs.Answers.{Answers, Sent}
use Rattle.desk_http.specs.Ports.{PortState}
use Rattle.desk_http.specs.Runs.{Runs}
use Rattle.desk_http.specs.Session.{SessionState, SessionOf, most_requests, refusal_text, texts_of}

-- nothing hindered a session: memory did not run out, its port had a number for each call, and the
-- counts of faults of its source and its sink neither rose nor are at their greatest value
pub record IsUnhindered (before after : SessionState) (outcome : Outcome) : Type 0 where
  pub memory : ¬ (outcome ≡ Memory)
  pub numbers : ¬ (outcome ≡ Spent)
  pub source : ¬ (Rose before.source.faults after.source.faults)
  pub sink : ¬ (Rose before.sink.faults after.sink.faults)

-- how a session ends that answered these requests of its input, and what it sent after their
-- replies: as the input does after them, and a head that is refused has its own reply; or with as
-- many requests as one session answers, of which none closes it
abbrev pub ComesToEnd : Outcome → List ℕ → List Request → List ℕ → Type 0
ComesToEnd Ended input requests last = Requests input requests ended × (last ≡ [])
ComesToEnd Closed input requests last = Requests input requests closed × (last ≡ [])
ComesToEnd Cut input requests last = Requests input requests cut × (last ≡ [])
ComesToEnd Malformed input requests last =
    (why : RequestRefusal) × Requests input requests (malformed why) × (last ≡ refusal_text why)
ComesToEnd Limit input requests last =
    All IsOpen requests × (length requests ≡ most_requests) × (last ≡ [])
ComesToEnd outcome input requests last = ⊥

-- `Comes` says what comes of a request and what the port becomes
module _ (Comes : PortState → Request → Result Sent Outcome → PortState → Type 0)
    (airport : AirportParts) where
  -- The requests of the input were answered one after another, each that has fewer than a million
  -- before it, by what came of it at its place. Their replies were written whole.
  pub record AnswersEachBy (before after : SessionState) (outcome : Outcome)
      (input : List ℕ) : Type 0 where
    pub requests : List Request
    pub sents : List Sent
    pub last : List ℕ
    pub each : (listed : List Request) (ending : Ending)
        → Requests input listed ending
        → requests ≡ take most_requests listed
    pub runs : Runs (λ old request sent new. Comes old request (Ok sent) new) before.port
        requests sents after.port
    pub ends : ComesToEnd outcome input requests last
    pub wrote : Wrote false before.sink after.sink (texts_of airport sents ++ last)

  -- each session that nothing hindered, and whose source tells its bytes, answers each of their
  -- requests
  abbrev pub IsCompleteBy : SessionState → SessionState → Outcome → Type 0
  IsCompleteBy before after outcome =
      (input : List ℕ)
      → before.source.left ≡ Some input
      → IsUnhindered before after outcome
      → AnswersEachBy before after outcome input

-- each request of the input was answered by its early reply, or by what the port gave for it at its
-- place
abbrev pub AnswersEach : (AirportParts → PortState → Ask → Given → PortState → Type 0)
    → AirportParts → SessionState → SessionState → Outcome → List ℕ → Type 0
AnswersEach asks airport before after outcome input =
    AnswersEachBy (Answers asks airport) airport before after outcome input

-- the same of a session over a port: `asks` says what a port of the airport gives for an ask and
-- what it becomes
abbrev pub IsSessionComplete : (AirportParts → PortState → Ask → Given → PortState → Type 0)
    → AirportParts → SessionState → SessionState → Outcome → Type 0
IsSessionComplete asks airport before after outcome =
    IsCompleteBy (Answers asks airport) airport before after outcome

-- the same of every session over such ports
abbrev pub SessionsAreComplete : (AirportParts → PortState → Ask → Given → PortState → Type 0)
    → Type 0
SessionsAreComplete asks =
    (airport : AirportParts) (before after : SessionState) (outcome : Outcome)
    → SessionOf asks airport before after outcome
    → IsSessionComplete asks airport before after outcome
