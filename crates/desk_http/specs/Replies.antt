-- The answer to one request, as it is written.
use Rattle.std.specs.Prelude.{◌≡◌, List, ℕ, true, false, take, Result, Ok, Err}
use Rattle.apron_base.specs.Ends.{SinkState, Wrote}
use Rattle.apron_base.specs.declared.outside.Acted.{Acted}
use Rattle.apron_base.specs.declared.outside.Acted.TheVariants.{Reply, Memory as NoMemory, Fault, Spent as NoCall}
use Rattle.apron_base.specs.declared.outside.Outcome.{Outcome}
use Rattle.apron_base.specs.declared.outside.Outcome.TheVariants.{WriteFault, Spent, Memory}
use Rattle.apron_rules.specs.declared.parts.AirportParts.{AirportParts}
use Rattle.desk_words.specs.Fixed.{keeper_fault_text, no_memory_text}
use Rattle.desk_http.specs.Answers.{Sent, sent_text}
use Rattle.desk_http.specs.Ports.{PortState}

-- the text was written whole; or the sink failed, which ends the session, and a front of it was
abbrev pub Writes : List ℕ → SinkState → SinkState → Result (Unit {0}) Outcome → Type 0
Writes text before after (Ok done) = Wrote false before after text
Writes text before after (Err WriteFault) = (count : ℕ) × Wrote true before after (take count text)
Writes text before after (Err outcome) = ⊥

-- the reply of an act was written; or it has none, since the port's numbers have run out
abbrev pub WritesActed : Acted → SinkState → SinkState → Result (Unit {0}) Outcome → Type 0
WritesActed (Reply text) before after result = Writes text before after result
WritesActed NoMemory before after result = Writes no_memory_text before after result
WritesActed Fault before after result = Writes keeper_fault_text before after result
WritesActed NoCall before after result = (after ≡ before) × (result ≡ Err Spent)

-- `came` says what came of a request, and what the port became
module _ (airport : AirportParts) (came : Result Sent Outcome → PortState → Type 0) where
  -- what was sent for the request was written, or the session ended with nothing sent for it
  abbrev pub IsAnswered : SinkState → SinkState → Result (Unit {0}) Outcome → PortState → Type 0
  IsAnswered before after (Err Spent) port = came (Err Spent) port × (after ≡ before)
  IsAnswered before after (Err Memory) port = came (Err Memory) port × (after ≡ before)
  IsAnswered before after result port =
      (sent : Sent) × came (Ok sent) port × Writes (sent_text airport sent) before after result
