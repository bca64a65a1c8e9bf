-- A session that nothing hinders answers each request of its input.
use Rattle.std.proofs.Common.{◌≡◌, ◌∙◌, ◌<◌, ◌≤◌, ◌+◌, ℕ, true, false, List, [], ◌∷◌, ◌++◌, length, length-append, take, append-nil, Option, None, Some, Result, Ok, refl, sym, ap, ap₂, subst, arith}
use Rattle.std.specs.Prelude.{All}
use Rattle.std.specs.Io.KnownBytes.{Consumes}
use Rattle.std.proofs.lemmas.List.{take_all, take_at}
use Rattle.std.proofs.lemmas.List.Elements.{All-head, All-tail}
use Rattle.apron_base.specs.Counts.{Counts}
use Rattle.apron_base.specs.Ends.{Wrote}
use Rattle.apron_base.specs.declared.outside.Outcome.{Outcome}
use Rattle.apron_base.specs.declared.outside.Outcome.TheVariants.{Ended, Closed, Cut, Malformed, Limit, ReadFault, WriteFault, Spent, Memory}
use Rattle.apron_rules.specs.declared.parts.AirportParts.{AirportParts}
use Rattle.http_framing.specs.Closing.{is_closing}
use Rattle.http_framing.specs.declared.bodies.RequestRefusal.{RequestRefusal}
use Rattle.http_framing.specs.Requests.{IsMalformed, Request}
use Rattle.http_framing.specs.Streams.{Ending, ended, cut, closed, malformed, IsOpen, Requests, Splits}
use Rattle.http_framing.proofs.OneReading.{HasRequest-unique, one_reading, request_ends}
use Rattle.http_framing.proofs.StreamLaws.{malformed_more, requests_closed, requests_of, splits_more, splits_push}
use Rattle.desk_asks.specs.declared.asks.Ask.{Ask}
use Rattle.history_core.specs.Answer.{Given}
use Rattle.desk_http.specs.Answers.{Answers, Sent, sent_text}
use Rattle.desk_http.specs.Complete.{AnswersEachBy, ComesToEnd, IsCompleteBy, IsUnhindered, SessionsAreComplete}
use Rattle.desk_http.specs.Ports.{PortState}
use Rattle.desk_http.specs.Runs.{Runs}
use Rattle.desk_http.specs.Session.{ComesFirst, EndsAfter, IsCount, IsReadToEnd, Last, SessionState, Progress, SessionBy, WritesLast, is_read_fault, is_write_fault, last_text, most_requests, nothing, refusal, reply, texts_of}
use Rattle.desk_http.proofs.SoFar.{runs_push, texts_of-push}

-- the requests that are listed of some bytes begin with the open ones at their front, and go on
-- after them
pub record GoesOnBehind (requests listed : List Request) (rest : List ℕ) (ending : Ending) : Type 0 where
  pub more : List Request
  pub are : listed ≡ requests ++ more
  pub reads : Requests rest more ending

pub listed_behind : (bytes rest : List ℕ) (requests listed : List Request) (ending : Ending) → Splits bytes requests rest → All IsOpen requests
    → Requests bytes listed ending → GoesOnBehind requests listed rest ending
listed_behind bytes rest [] listed ending splits stay reads =
    record { more = listed; are = refl; reads = subst (λ t. Requests t listed ending) splits reads }
listed_behind bytes rest (r ∷ rs) [] ending splits stay reads = absurd (request_ends bytes r splits.0 ending splits.1 reads)
listed_behind bytes rest (r ∷ rs) (q ∷ qs) ending splits stay reads =
    let same = HasRequest-unique bytes r q splits.0 reads.0 splits.1 reads.1 in
    let stays : is_closing r.head ≡ false = All-head IsOpen r rs stay in
    let later : Requests reads.0 qs ending = reads.3 (ap (λ (x : Request). is_closing x.head) (sym same.0) ∙ stays) in
    let behind : GoesOnBehind rs qs rest ending =
    listed_behind splits.0 rest rs qs ending splits.2 (All-tail IsOpen r rs stay) (subst (λ t. Requests t qs ending) (sym same.1) later) in
    record { more = behind.more; are = ap₂ (λ x xs. x ∷ xs) (sym same.0) behind.are; reads = behind.reads }

-- the rest of the bytes that a source told
pub record HasMore (input taken : List ℕ) (left : Option (List ℕ)) : Type 0 where
  pub rest : List ℕ
  pub is : left ≡ Some rest
  pub front : input ≡ taken ++ rest

has_more : (input taken : List ℕ) (left : Option (List ℕ)) → Consumes (Some input) left taken → HasMore input taken left
has_more input taken None h = absurd h
has_more input taken (Some rest) h = record { rest = rest; is = refl; front = h }

-- all that are listed of an input are its requests, if they are no more than a session answers
each_is_listed : (input : List ℕ) (requests : List Request) (ending : Ending) → Requests input requests ending → length requests ≤ most_requests
    → (listed : List Request) (other : Ending) → Requests input listed other → requests ≡ take most_requests listed
each_is_listed input requests ending reads few listed other lists =
    let same = one_reading input requests listed ending other reads lists in
    let count : length requests ≡ length listed = ap length same.0 in
    same.0 ∙ sym (take_all most_requests listed (omega arith))

module _ (Comes : PortState → Request → Result Sent Outcome → PortState → Type 0) (airport : AirportParts) (before after : SessionState) (input taken more : List ℕ)
    (front : input ≡ taken ++ more) (done : Progress) (served : PortState) (splits : Splits taken done.requests done.rest) (stay : All IsOpen done.requests)
    (runs : Runs (λ old request sent new. Comes old request (Ok sent) new) before.port done.requests done.sents served) where
  -- the requests that left the session open, in the whole input
  open_splits : Splits input done.requests (done.rest ++ more)
  open_splits = subst (λ i. Splits i done.requests (done.rest ++ more)) (sym front) (splits_more taken more done.rest done.requests splits)

  -- all of the input was taken
  all_taken : more ≡ [] → input ≡ taken
  all_taken none = front ∙ (ap (λ m. taken ++ m) none ∙ append-nil taken)

  -- the session ended after those requests, with its port as it then was
  answers_open : (outcome : Outcome) (last : List ℕ) → after.port ≡ served
      → ((listed : List Request) (ending : Ending) → Requests input listed ending → done.requests ≡ take most_requests listed)
      → ComesToEnd outcome input done.requests last → Wrote false before.sink after.sink (texts_of airport done.sents ++ last)
      → AnswersEachBy Comes airport before after outcome input
  answers_open outcome last same each ends wrote = record {
    requests = done.requests;
    sents = done.sents;
    last = last;
    each = each;
    runs = subst (λ (p : PortState). Runs (λ old request sent new. Comes old request (Ok sent) new) before.port done.requests done.sents p) (sym same) runs;
    ends = ends;
    wrote = wrote;
  }

  -- it ended as the input does, which was taken whole
  ends_so : (ending : Ending) → Requests taken done.requests ending → more ≡ [] → Requests input done.requests ending
  ends_so ending reads none = subst (λ i. Requests i done.requests ending) (sym (all_taken none)) reads

  -- it ended at a head that is refused
  ends_refused : (why : RequestRefusal) → IsMalformed done.rest why → Requests input done.requests (malformed why)
  ends_refused why bad = requests_of input (done.rest ++ more) done.requests (malformed why) open_splits stay (malformed_more done.rest more why bad)

  -- it has answered as many as it may
  each_to_limit : length done.requests ≡ most_requests → (listed : List Request) (ending : Ending) → Requests input listed ending
      → done.requests ≡ take most_requests listed
  each_to_limit most listed ending lists =
      let behind : GoesOnBehind done.requests listed (done.rest ++ more) ending =
      listed_behind input (done.rest ++ more) done.requests listed ending open_splits stay lists in
      sym (ap (take most_requests) behind.are ∙ take_at done.requests behind.more most_requests most)

  -- it ended with a request that closes it
  closes_with : (request : Request) (sent : Sent) → is_closing request.head ≡ true → ComesFirst Comes done.rest request (Ok sent) served after.port
      → length done.requests < most_requests → Wrote false before.sink after.sink (texts_of airport done.sents ++ sent_text airport sent)
      → AnswersEachBy Comes airport before after Closed input
  closes_with request sent closing first few wrote =
      let all : Splits input (done.requests ++ request ∷ []) (first.behind ++ more) = subst (λ i. Splits i (done.requests ++ request ∷ []) (first.behind ++ more)) (sym front)
      (splits_more taken more first.behind (done.requests ++ request ∷ []) (splits_push taken done.rest first.behind done.requests request splits first.first)) in
      let reads : Requests input (done.requests ++ request ∷ []) closed = requests_closed input (first.behind ++ more) done.requests request all stay closing in
      let one : length (done.requests ++ request ∷ []) ≡ length done.requests + 1 = length-append done.requests (request ∷ []) in
      record {
        requests = done.requests ++ request ∷ [];
        sents = done.sents ++ sent ∷ [];
        last = [];
        each = each_is_listed input (done.requests ++ request ∷ []) closed reads (omega arith);
        runs = runs_push (λ old r s new. Comes old r (Ok s) new) before.port served after.port done.requests done.sents request sent runs first.comes;
        ends = (reads, refl);
        wrote = subst (Wrote false before.sink after.sink) (sym (append-nil (texts_of airport (done.sents ++ sent ∷ [])) ∙ texts_of-push airport done.sents sent)) wrote;
      }

  -- how it ended, for each outcome
  comes_to_end : (outcome : Outcome) (last : Last) (written : List ℕ) → EndsAfter Comes outcome done last served after.port
      → IsReadToEnd outcome (Some more) → IsCount outcome (length done.requests) → WritesLast outcome (last_text airport last) written
      → Wrote (is_write_fault outcome) before.sink after.sink (texts_of airport done.sents ++ written)
      → Counts (is_read_fault outcome) before.source.faults after.source.faults → IsUnhindered before after outcome
      → AnswersEachBy Comes airport before after outcome input
  comes_to_end Ended nothing written ends read count is wrote counts free =
      let reads : Requests input done.requests ended = ends_so ended (requests_of taken done.rest done.requests ended splits stay ends.0) read in
      answers_open Ended written ends.1 (each_is_listed input done.requests ended reads (omega arith)) (reads, is) wrote
  comes_to_end Cut nothing written ends read count is wrote counts free =
      let reads : Requests input done.requests cut = ends_so cut (requests_of taken done.rest done.requests cut splits stay ends.0) read in
      answers_open Cut written ends.1 (each_is_listed input done.requests cut reads (omega arith)) (reads, is) wrote
  comes_to_end Malformed (refusal why) written ends read count is wrote counts free =
      let reads : Requests input done.requests (malformed why) = ends_refused why ends.0 in
      answers_open Malformed written ends.1 (each_is_listed input done.requests (malformed why) reads (omega arith)) (why, reads, is) wrote
  comes_to_end Limit nothing written ends read count is wrote counts free =
      answers_open Limit written ends.1 (each_to_limit count) (stay, count, is) wrote
  comes_to_end Closed (reply request sent) written (closing, first) read count is wrote counts free =
      closes_with request sent closing first count (subst (λ w. Wrote false before.sink after.sink (texts_of airport done.sents ++ w)) is wrote)
  comes_to_end ReadFault last written ends read count is wrote counts free = absurd (free.source counts.1)
  comes_to_end WriteFault last written ends read count is wrote counts free = let rose = wrote.faults in absurd (free.sink rose.1)
  comes_to_end Spent last written ends read count is wrote counts free = absurd (free.numbers refl)
  comes_to_end Memory last written ends read count is wrote counts free = absurd (free.memory refl)
  comes_to_end other last written ends read count is wrote counts free = absurd ends.0

-- every session is complete
pub sessions_complete_by : (Comes : PortState → Request → Result Sent Outcome → PortState → Type 0) (airport : AirportParts) (before after : SessionState) (outcome : Outcome)
    → SessionBy Comes airport before after outcome → IsCompleteBy Comes airport before after outcome
sessions_complete_by Comes airport before after outcome session input told free =
    let took = session.took in
    let consumed : Consumes (Some input) after.source.left session.taken = subst (λ l. Consumes l after.source.left session.taken) told took.left in
    let more : HasMore input session.taken after.source.left = has_more input session.taken after.source.left consumed in
    comes_to_end Comes airport before after input session.taken more.rest more.front session.done session.served session.splits session.stay session.runs outcome session.last session.written
    session.ends (subst (IsReadToEnd outcome) more.is session.read) session.count session.last_written session.wrote took.faults free

pub sessions_complete : (asks : AirportParts → PortState → Ask → Given → PortState → Type 0) → SessionsAreComplete asks
sessions_complete asks airport before after outcome session = sessions_complete_by (Answers asks airport) airport before after outcome session
