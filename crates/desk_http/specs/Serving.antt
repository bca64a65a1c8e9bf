-- What the steps of a session do.
use Rattle.std.specs.Prelude.{◌≡◌, ◌<◌, All, ℕ, true, false, List, [], ◌++◌, length, Result, Ok, Err}
use Rattle.std.specs.Io.KnownBytes.{IsAtEnd}
use Rattle.apron_base.specs.Ends.{SourceState, Took, Wrote}
use Rattle.apron_base.specs.declared.outside.Outcome.{Outcome}
use Rattle.apron_base.specs.declared.outside.Outcome.TheVariants.{Ended, Cut, ReadFault}
use Rattle.apron_rules.specs.declared.parts.AirportParts.{AirportParts}
use Rattle.http_framing.specs.Requests.{Request, IsPartial}
use Rattle.http_framing.specs.Streams.{EndsStream, ended, cut, IsOpen, Splits}
use Rattle.desk_http.specs.Answers.{Sent}
use Rattle.desk_http.specs.Ports.{PortState}
use Rattle.desk_http.specs.Runs.{Runs}
use Rattle.desk_http.specs.Session.{SessionBy, SessionState, texts_of}

-- one read took a piece more, or the session ends with the bytes that have come
abbrev pub TakesMore : SourceState → SourceState → List ℕ → List ℕ → Result (Unit {0}) Outcome
    → Type 0
TakesMore before after old new (Ok done) =
    (piece : List ℕ) × Took false before after piece × (new ≡ old ++ piece) × (0 < length piece)
TakesMore before after old new (Err Ended) =
    Took false before after [] × EndsStream old ended × IsAtEnd after.left
TakesMore before after old new (Err Cut) =
    Took false before after [] × EndsStream old cut × IsAtEnd after.left
TakesMore before after old new (Err ReadFault) = Took true before after [] × IsPartial old
TakesMore before after old new (Err outcome) = ⊥

-- `Comes` says what comes of a request and what the port becomes
module _ (Comes : PortState → Request → Result Sent Outcome → PortState → Type 0)
    (airport : AirportParts) where
  -- what a session has done so far: each reply whole, and none of the requests closing
  pub record SoFar (before now : SessionState) (rest : List ℕ) (count : ℕ) : Type 0 where
    pub taken : List ℕ
    pub requests : List Request
    pub sents : List Sent
    pub took : Took false before.source now.source taken
    pub splits : Splits taken requests rest
    pub stay : All IsOpen requests
    pub runs : Runs (λ old request sent new. Comes old request (Ok sent) new) before.port requests
        sents now.port
    pub wrote : Wrote false before.sink now.sink (texts_of airport sents)
    pub counted : length requests ≡ count

  -- the session has served this many requests and is open, or it has ended
  abbrev pub GoesOnOrEnds : SessionState → SessionState → List ℕ → ℕ → Result (Unit {0}) Outcome
      → Type 0
  GoesOnOrEnds before now rest count (Ok done) = SoFar before now rest count
  GoesOnOrEnds before now rest count (Err outcome) = SessionBy Comes airport before now outcome
