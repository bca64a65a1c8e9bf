-- How a session ends: at the bytes that have come, at its limit, or before it began.
use Rattle.std.proofs.Common.{◌≡◌, ◌∙◌, ◌+◌, ◌<◌, ℕ, true, false, List, [], length, take, refl, sym, subst, append-nil, arith, Result, Ok, Err, inl, inr}
use Rattle.std.specs.Result.{result_and}
use Rattle.std.proofs.lemmas.List.Elements.{All-from_recursion}
use Rattle.apron_base.specs.Ends.{SinkState, SourceState, Took, Wrote}
use Rattle.apron_base.specs.declared.outside.Outcome.{Outcome}
use Rattle.apron_base.specs.declared.outside.Outcome.TheVariants.{Ended, Closed, Cut, Malformed, Limit, ReadFault, WriteFault, Spent, Memory}
use Rattle.apron_base.proofs.Runs.{took_both, took_none, wrote_both, wrote_none}
use Rattle.apron_rules.specs.declared.parts.AirportParts.{AirportParts}
use Rattle.http_framing.specs.Closing.{is_closing}
use Rattle.http_framing.specs.Requests.{HasRequest, IsMalformed, Request}
use Rattle.http_framing.specs.Streams.{IsOpen}
use Rattle.http_framing.specs.declared.bodies.RequestRefusal.{RequestRefusal}
use Rattle.desk_http.specs.Answers.{Sent, sent_text}
use Rattle.desk_http.specs.Ports.{PortState}
use Rattle.desk_http.specs.Replies.{IsAnswered, Writes}
use Rattle.desk_http.specs.Serving.{GoesOnOrEnds, SoFar, TakesMore}
use Rattle.desk_http.specs.Session.{EndsAfter, IsCount, IsReadToEnd, Last, nothing, reply, refusal, SessionState, SessionBy, WritesLast, is_read_fault, is_write_fault, last_text, most_requests, no_progress, refusal_text, texts_of}
use Rattle.desk_http.proofs.SoFar.{at, goes_on}

module _ (Comes : PortState → Request → Result Sent Outcome → PortState → Type 0) (airport : AirportParts) where
  -- a session ends so, with these bytes left
  pub record Ends (now after : SessionState) (rest : List ℕ) (outcome : Outcome) : Type 0 where
    pub last : Last
    pub written : List ℕ
    pub took : Took (is_read_fault outcome) now.source after.source []
    pub ends : (requests : List Request) (sents : List Sent)
        → EndsAfter Comes outcome (record { requests = requests; sents = sents; rest = rest }) last now.port after.port
    pub read : IsReadToEnd outcome after.source.left
    pub count : (n : ℕ) → n < most_requests → IsCount outcome n
    pub last_written : WritesLast outcome (last_text airport last) written
    pub wrote : Wrote (is_write_fault outcome) now.sink after.sink written

  module _ (start now : SessionState) (rest : List ℕ) (count : ℕ) (h : SoFar Comes airport start now rest count) (few : count < most_requests) where
    -- a session that has come so far ends so
    ends_with : (after : SessionState) (outcome : Outcome) → Ends now after rest outcome → SessionBy Comes airport start after outcome
    ends_with after outcome t = record {
      taken = h.taken;
      done = record { requests = h.requests; sents = h.sents; rest = rest };
      served = now.port;
      last = t.last;
      written = t.written;
      took = subst (Took (is_read_fault outcome) start.source after.source) (append-nil h.taken)
          (took_both false (is_read_fault outcome) start.source now.source after.source h.taken [] h.took t.took);
      splits = h.splits;
      stay = h.stay;
      runs = h.runs;
      ends = t.ends h.requests h.sents;
      read = t.read;
      count = t.count (length h.requests) (subst (λ n. n < most_requests) (sym h.counted) few);
      last_written = t.last_written;
      wrote = wrote_both false (is_write_fault outcome) start.sink now.sink after.sink (texts_of airport h.sents) t.written h.wrote t.wrote;
    }

    module _ (request : Request) (left : List ℕ) (first : HasRequest rest request left) (told : SinkState) (next : PortState) where
      -- at a request whose answer ends it
      answer_ends : (outcome : Outcome) → IsAnswered airport (Comes now.port request) now.sink told (Err outcome) next → SessionBy Comes airport start (at now.source told next) outcome
      answer_ends WriteFault (sent, came, (count, wrote)) = ends_with _ _ (record {
        last = reply request sent;
        written = take count (sent_text airport sent);
        took = took_none now.source;
        ends = λ requests sents. record { behind = left; first = first; comes = came };
        read = tt;
        count = λ n few. few;
        last_written = (count, refl);
        wrote = wrote;
      })
      answer_ends Spent (came, same) = ends_with _ _ (record {
        last = nothing;
        written = [];
        took = took_none now.source;
        ends = λ requests sents. (request, record { behind = left; first = first; comes = came });
        read = tt;
        count = λ n few. few;
        last_written = refl;
        wrote = subst (λ s. Wrote false now.sink s []) (sym same) (wrote_none now.sink);
      })
      answer_ends Memory (came, same) = ends_with _ _ (record {
        last = nothing;
        written = [];
        took = took_none now.source;
        ends = λ requests sents. inl (request, record { behind = left; first = first; comes = came });
        read = tt;
        count = λ n few. few;
        last_written = refl;
        wrote = subst (λ s. Wrote false now.sink s []) (sym same) (wrote_none now.sink);
      })
      answer_ends other h = absurd h.2

      -- it goes on after a request that leaves it open
      pub goes_on_after : (result : Result (Unit {0}) Outcome) → is_closing request.head ≡ false → IsAnswered airport (Comes now.port request) now.sink told result next
          → GoesOnOrEnds Comes airport start (at now.source told next) left (count + 1) result
      goes_on_after (Ok done) stays answered = goes_on Comes airport start now told next rest left count request h first stays answered
      goes_on_after (Err outcome) stays answered = answer_ends outcome answered

      -- and ends after one that closes it
      pub closes_after : (result : Result (Unit {0}) Outcome) → is_closing request.head ≡ true → IsAnswered airport (Comes now.port request) now.sink told result next
          → GoesOnOrEnds Comes airport start (at now.source told next) left (count + 1) (result_and result (Err Closed))
      closes_after (Ok done) closing (sent, came, wrote) = ends_with _ _ (record {
        last = reply request sent;
        written = sent_text airport sent;
        took = took_none now.source;
        ends = λ requests sents. (closing, record { behind = left; first = first; comes = came });
        read = tt;
        count = λ n few. few;
        last_written = refl;
        wrote = wrote;
      })
      closes_after (Err outcome) closing answered = answer_ends outcome answered

    -- it ends at bytes that are refused
    pub refuses : (why : RequestRefusal) (told : SinkState) (result : Result (Unit {0}) Outcome) → IsMalformed rest why → Writes (refusal_text why) now.sink told result
        → GoesOnOrEnds Comes airport start (at now.source told now.port) rest (count + 1) (result_and result (Err Malformed))
    refuses why told (Ok done) bad wrote = ends_with _ _ (record {
      last = refusal why;
      written = refusal_text why;
      took = took_none now.source;
      ends = λ requests sents. (bad, refl);
      read = tt;
      count = λ n few. few;
      last_written = refl;
      wrote = wrote;
    })
    refuses why told (Err WriteFault) bad (count, wrote) = ends_with _ _ (record {
      last = refusal why;
      written = take count (refusal_text why);
      took = took_none now.source;
      ends = λ requests sents. (bad, refl);
      read = tt;
      count = λ n few. few;
      last_written = (count, refl);
      wrote = wrote;
    })
    refuses why told (Err other) bad wrote = absurd wrote

    -- and where no more can be read
    pub reads_no_more : (left : SourceState) (more : List ℕ) (outcome : Outcome) → TakesMore now.source left rest more (Err outcome)
        → SessionBy Comes airport start (at left now.sink now.port) outcome
    reads_no_more left more Ended (took, ends, read) = ends_with _ _ (record {
      last = nothing;
      written = [];
      took = took;
      ends = λ requests sents. (ends, refl);
      read = read;
      count = λ n few. few;
      last_written = refl;
      wrote = wrote_none now.sink;
    })
    reads_no_more left more Cut (took, ends, read) = ends_with _ _ (record {
      last = nothing;
      written = [];
      took = took;
      ends = λ requests sents. (ends, refl);
      read = read;
      count = λ n few. few;
      last_written = refl;
      wrote = wrote_none now.sink;
    })
    reads_no_more left more ReadFault (took, partial) = ends_with _ _ (record {
      last = nothing;
      written = [];
      took = took;
      ends = λ requests sents. (partial, refl);
      read = tt;
      count = λ n few. few;
      last_written = refl;
      wrote = wrote_none now.sink;
    })
    reads_no_more left more other h = absurd h

  -- it ends with the most requests that it answers
  pub reaches_limit : (before now : SessionState) (rest : List ℕ) (count : ℕ) → SoFar Comes airport before now rest count → count ≡ most_requests
      → SessionBy Comes airport before now Limit
  reaches_limit before now rest count h most = record {
    taken = h.taken;
    done = record { requests = h.requests; sents = h.sents; rest = rest };
    served = now.port;
    last = nothing;
    written = [];
    took = h.took;
    splits = h.splits;
    stay = h.stay;
    runs = h.runs;
    ends = (tt, refl);
    read = tt;
    count = h.counted ∙ most;
    last_written = refl;
    wrote = subst (Wrote false before.sink now.sink) (sym (append-nil (texts_of airport h.sents))) h.wrote;
  }

  -- no memory was there to begin with
  pub ends_unbegun : (now : SessionState) → SessionBy Comes airport now now Memory
  ends_unbegun now = record {
    taken = [];
    done = no_progress;
    served = now.port;
    last = nothing;
    written = [];
    took = took_none now.source;
    splits = refl;
    stay = All-from_recursion IsOpen [] tt;
    runs = refl;
    ends = inr (refl, refl);
    read = tt;
    count = omega arith;
    last_written = refl;
    wrote = wrote_none now.sink;
  }
