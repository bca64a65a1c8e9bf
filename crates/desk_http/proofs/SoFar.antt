-- A session's progress: nothing yet, more bytes, and one request more.
use Rattle.std.proofs.Common.{◌≡◌, ◌∙◌, ◌+◌, ℕ, false, List, [], ◌∷◌, ◌++◌, refl, sym, ap, subst, append_assoc, append-nil, length-append, Result, Ok}
use Rattle.std.specs.Prelude.{All}
use Rattle.std.proofs.lemmas.List.Elements.{All-append, All-from_recursion}
use Rattle.apron_base.specs.Ends.{SinkState, SourceState, Took, Wrote}
use Rattle.apron_base.specs.declared.outside.Outcome.{Outcome}
use Rattle.apron_base.proofs.Runs.{took_both, took_none, wrote_both, wrote_none}
use Rattle.apron_rules.specs.declared.parts.AirportParts.{AirportParts}
use Rattle.http_framing.specs.Closing.{is_closing}
use Rattle.http_framing.specs.Requests.{HasRequest, Request}
use Rattle.http_framing.specs.Streams.{IsOpen}
use Rattle.http_framing.proofs.StreamLaws.{splits_more, splits_push}
use Rattle.desk_http.specs.Answers.{Sent, sent_text}
use Rattle.desk_http.specs.Ports.{PortState}
use Rattle.desk_http.specs.Replies.{IsAnswered}
use Rattle.desk_http.specs.Runs.{Runs}
use Rattle.desk_http.specs.Serving.{SoFar}
use Rattle.desk_http.specs.Session.{SessionState, texts_of}

-- one step more
pub runs_push : {S R A : Type 0} (step : S → R → A → S → Type 0) (old mid new : S) (requests : List R) (answers : List A) (request : R) (answer : A)
    → Runs step old requests answers mid → step mid request answer new → Runs step old (requests ++ request ∷ []) (answers ++ answer ∷ []) new
runs_push step old mid new [] [] request answer h s = (new, subst (λ p. step p request answer new) (sym h) s, refl)
runs_push step old mid new (r ∷ requests) (x ∷ answers) request answer h s = (h.0, h.1, runs_push step h.0 mid new requests answers request answer h.2 s)
runs_push step old mid new [] (x ∷ answers) request answer h s = absurd h
runs_push step old mid new (r ∷ requests) [] request answer h s = absurd h

pub texts_of-push : (airport : AirportParts) (sents : List Sent) (sent : Sent) → texts_of airport (sents ++ sent ∷ []) ≡ texts_of airport sents ++ sent_text airport sent
texts_of-push airport [] sent = append-nil (sent_text airport sent)
texts_of-push airport (x ∷ sents) sent =
    let rest : texts_of airport (sents ++ sent ∷ []) ≡ texts_of airport sents ++ sent_text airport sent = texts_of-push airport sents sent in rw (rest, append_assoc) refl

stay_push : (requests : List Request) (request : Request) → All IsOpen requests → is_closing request.head ≡ false → All IsOpen (requests ++ request ∷ [])
stay_push requests request h stays = All-append IsOpen requests (request ∷ []) h (All-from_recursion IsOpen (request ∷ []) (stays, tt))

-- a moment of a session
abbrev pub at : SourceState → SinkState → PortState → SessionState
at source sink port = record { source = source; sink = sink; port = port }

module _ (Comes : PortState → Request → Result Sent Outcome → PortState → Type 0) (airport : AirportParts) where
  -- nothing yet
  pub begins : (now : SessionState) (rest : List ℕ) → rest ≡ [] → SoFar Comes airport now now rest 0
  begins now rest empty = record {
    taken = [];
    requests = [];
    sents = [];
    took = took_none now.source;
    splits = sym empty;
    stay = All-from_recursion IsOpen [] tt;
    runs = refl;
    wrote = wrote_none now.sink;
    counted = refl;
  }

  -- a piece more was taken
  pub takes_piece : (before now : SessionState) (more : SourceState) (rest piece : List ℕ) (count : ℕ)
      → SoFar Comes airport before now rest count → Took false now.source more piece → SoFar Comes airport before (at more now.sink now.port) (rest ++ piece) count
  takes_piece before now more rest piece count h took = record {
    taken = h.taken ++ piece;
    requests = h.requests;
    sents = h.sents;
    took = took_both false false before.source now.source more h.taken piece h.took took;
    splits = splits_more h.taken piece rest h.requests h.splits;
    stay = h.stay;
    runs = h.runs;
    wrote = h.wrote;
    counted = h.counted;
  }

  -- one request more was answered, and leaves the session open
  pub goes_on : (before now : SessionState) (told : SinkState) (next : PortState) (rest left : List ℕ) (count : ℕ) (request : Request)
      → SoFar Comes airport before now rest count → HasRequest rest request left → is_closing request.head ≡ false
      → IsAnswered airport (Comes now.port request) now.sink told (Ok tt) next → SoFar Comes airport before (at now.source told next) left (count + 1)
  goes_on before now told next rest left count request h first stays (sent, came, wrote) = record {
    taken = h.taken;
    requests = h.requests ++ request ∷ [];
    sents = h.sents ++ sent ∷ [];
    took = h.took;
    splits = splits_push h.taken rest left h.requests request h.splits first;
    stay = stay_push h.requests request h.stay stays;
    runs = runs_push (λ old r s new. Comes old r (Ok s) new) before.port now.port next h.requests h.sents request sent h.runs came;
    wrote = subst (Wrote false before.sink told) (sym (texts_of-push airport h.sents sent))
        (wrote_both false false before.sink now.sink told (texts_of airport h.sents) (sent_text airport sent) h.wrote wrote);
    counted = length-append h.requests (request ∷ []) ∙ ap (λ n. n + 1) h.counted;
  }
