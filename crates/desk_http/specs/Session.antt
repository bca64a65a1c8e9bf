-- One session: the requests at the front of the bytes taken, and for each what was sent.
use Rattle.std.specs.Prelude.{◌≡◌, ◌⊎◌, ◌<◌, All, ℕ, Bool, true, false, List, [], ◌++◌, length, take, Option, Result, Ok, Err}
use Rattle.std.specs.List.{flat_map}
use Rattle.std.specs.Io.KnownBytes.{IsAtEnd}
use Rattle.apron_base.specs.Ends.{SinkState, SourceState, Took, Wrote}
use Rattle.apron_base.specs.declared.outside.Outcome.{Outcome}
use Rattle.apron_base.specs.declared.outside.Outcome.TheVariants.{Ended, Closed, Cut, Malformed, Limit, ReadFault, WriteFault, Spent, Memory}
use Rattle.apron_rules.specs.declared.parts.AirportParts.{AirportParts}
use Rattle.http_framing.specs.declared.bodies.RequestRefusal.{RequestRefusal}
use Rattle.http_framing.specs.declared.bodies.RequestRefusal.TheVariants.{Head, Encoding, Large, Length}
use Rattle.http_framing.specs.Closing.{is_closing}
use Rattle.http_framing.specs.Requests.{Request, HasRequest, IsPartial, IsMalformed}
use Rattle.http_framing.specs.Streams.{EndsStream, ended, cut, Splits, IsOpen}
use Rattle.desk_asks.specs.declared.asks.Ask.{Ask}
use Rattle.desk_words.specs.Fixed.{bad_encoding_text, bad_head_text, large_body_text, no_length_text}
use Rattle.history_core.specs.Answer.{Given}
use Rattle.desk_http.specs.Answers.{Answers, Sent, sent_text}
use Rattle.desk_http.specs.Ports.{PortState}
use Rattle.desk_http.specs.Runs.{Runs}

-- what is known of the ends of a session and of its port at one time
pub record SessionState : Type 0 where
  pub source : SourceState
  pub sink : SinkState
  pub port : PortState

-- the requests that were answered and left the session open, what was sent for each, and the bytes
-- after them
pub record Progress : Type 0 where
  pub requests : List Request
  pub sents : List Sent
  pub rest : List ℕ

-- what was sent last, whole or a front of it: nothing, the reply to a request, or the reply to
-- bytes that are refused
pub data Last : Type 0 where
  nothing : Last
  reply : Request → Sent → Last
  refusal : RequestRefusal → Last

-- the bytes of the reply to bytes that are refused
abbrev pub refusal_text : RequestRefusal → List ℕ
refusal_text Head = bad_head_text
refusal_text Encoding = bad_encoding_text
refusal_text Large = large_body_text
refusal_text Length = no_length_text

-- the bytes of what was sent last
abbrev pub last_text : AirportParts → Last → List ℕ
last_text airport nothing = []
last_text airport (reply request sent) = sent_text airport sent
last_text airport (refusal why) = refusal_text why

-- the bytes of all that is sent
abbrev pub texts_of : AirportParts → List Sent → List ℕ
texts_of airport sents = flat_map (sent_text airport) sents

-- how many requests one session answers at most
abbrev pub most_requests : ℕ
most_requests = 1000000

-- whether the outcome is a fault of the source
abbrev pub is_read_fault : Outcome → Bool
is_read_fault ReadFault = true
is_read_fault outcome = false

-- whether the outcome is a fault of the sink
abbrev pub is_write_fault : Outcome → Bool
is_write_fault WriteFault = true
is_write_fault outcome = false

-- the source was read to its end, if the outcome depends on its end
abbrev pub IsReadToEnd : Outcome → Option (List ℕ) → Type 0
IsReadToEnd Ended left = IsAtEnd left
IsReadToEnd Cut left = IsAtEnd left
IsReadToEnd outcome left = Unit {0}

-- how many requests left the session open: the most at the limit, else fewer
abbrev pub IsCount : Outcome → ℕ → Type 0
IsCount Limit count = count ≡ most_requests
IsCount outcome count = count < most_requests

-- what was written of the last text: all of it, or a front if the sink failed
abbrev pub WritesLast : Outcome → List ℕ → List ℕ → Type 0
WritesLast WriteFault text written = (count : ℕ) × (written ≡ take count text)
WritesLast outcome text written = written ≡ text

-- why a session ends that asks nothing more of its port, by the bytes that are left and what is
-- sent last
abbrev pub StopsSession : Outcome → List ℕ → Last → Type 0
StopsSession Ended rest nothing = EndsStream rest ended
StopsSession Cut rest nothing = EndsStream rest cut
StopsSession Malformed rest (refusal why) = IsMalformed rest why
StopsSession WriteFault rest (refusal why) = IsMalformed rest why
StopsSession ReadFault rest nothing = IsPartial rest
StopsSession Limit rest nothing = Unit {0}
StopsSession outcome rest last = ⊥

-- nothing was answered, and nothing is left of what was taken
abbrev pub no_progress : Progress
no_progress = record { requests = []; sents = []; rest = [] }

-- `Comes` says what comes of a request and what the port becomes
module _ (Comes : PortState → Request → Result Sent Outcome → PortState → Type 0) where
  -- the request is at the front of the bytes, and this came of it
  pub record ComesFirst (bytes : List ℕ) (request : Request) (came : Result Sent Outcome)
      (before after : PortState) : Type 0 where
    pub behind : List ℕ
    pub first : HasRequest bytes request behind
    pub comes : Comes before request came after

  -- why a session ends, by the request at the front of the bytes that are left, or with its port as
  -- it was
  abbrev pub EndsSession : Outcome → List ℕ → Last → PortState → PortState → Type 0
  EndsSession Closed rest (reply request sent) before after = (is_closing request.head ≡ true)
      × ComesFirst rest request (Ok sent) before after
  EndsSession WriteFault rest (reply request sent) before after =
      ComesFirst rest request (Ok sent) before after
  EndsSession Spent rest nothing before after = (request : Request)
      × ComesFirst rest request (Err Spent) before after
  EndsSession Memory rest nothing before after = (request : Request)
      × ComesFirst rest request (Err Memory) before after
  EndsSession outcome rest last before after = StopsSession outcome rest last × (after ≡ before)

  -- the same, or memory ran out before anything was read
  abbrev pub EndsAfter : Outcome → Progress → Last → PortState → PortState → Type 0
  EndsAfter Memory done nothing before after = EndsSession Memory done.rest nothing before after
      ⊎ ((done ≡ no_progress) × (after ≡ before))
  EndsAfter outcome done last before after = EndsSession outcome done.rest last before after

  -- One session: it took these bytes, answered the requests at their front one after another, and
  -- ended with what was sent last.
  pub record SessionBy (airport : AirportParts) (before after : SessionState)
      (outcome : Outcome) : Type 0 where
    pub taken : List ℕ
    pub done : Progress
    pub served : PortState
    pub last : Last
    pub written : List ℕ
    pub took : Took (is_read_fault outcome) before.source after.source taken
    pub splits : Splits taken done.requests done.rest
    pub stay : All IsOpen done.requests
    pub runs : Runs (λ old request sent new. Comes old request (Ok sent) new) before.port
        done.requests done.sents served
    pub ends : EndsAfter outcome done last served after.port
    pub read : IsReadToEnd outcome after.source.left
    pub count : IsCount outcome (length done.requests)
    pub last_written : WritesLast outcome (last_text airport last) written
    pub wrote : Wrote (is_write_fault outcome) before.sink after.sink
        (texts_of airport done.sents ++ written)

-- a session over a port: `asks` says what a port of the airport gives for an ask and what it
-- becomes
abbrev pub SessionOf : (AirportParts → PortState → Ask → Given → PortState → Type 0) → AirportParts
    → SessionState → SessionState → Outcome → Type 0
SessionOf asks airport before after outcome =
    SessionBy (Answers asks airport) airport before after outcome

-- the sessions of one kind: the airport of their plan, and what comes of a request and what the
-- port becomes
pub record SessionKind : Type 1 where
  pub airport : AirportParts
  pub comes : PortState → Request → Result Sent Outcome → PortState → Type 0

-- a session of this kind
abbrev pub SessionOfKind : SessionKind → SessionState → SessionState → Outcome → Type 0
SessionOfKind kind before after outcome = SessionBy kind.comes kind.airport before after outcome
