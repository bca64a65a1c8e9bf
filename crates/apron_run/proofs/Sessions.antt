-- How a session of the word `desk` ends that is valid and at whose ends nothing fails.
use Rattle.std.proofs.Common.{◌≡◌, ◌≢◌, ◌∙◌, ◌<◌, ◌≤◌, ◌+◌, ◌⊎◌, ℕ, true, List, [], ◌∷◌, ◌++◌, length, take, Option, None, Some, Result, Ok, Err, inl, inr, refl, sym, ap, ap₂, subst, arith}
use Rattle.std.specs.Prelude.{All, cond, count_by, is_ok}
use Rattle.std.specs.Io.KnownBytes.{Consumes}
use Rattle.std.proofs.lemmas.List.{take_all}
use Rattle.std.proofs.lemmas.List.Elements.{All-head, All-tail}
use Rattle.std.proofs.lemmas.List.Sums.{sum_by-append, sum_by-cons}
use Rattle.apron_base.specs.Counts.{Rose}
use Rattle.apron_base.specs.declared.outside.Outcome.{Outcome}
use Rattle.apron_base.specs.declared.outside.Outcome.TheVariants as came
use Rattle.apron_rules.specs.declared.parts.AirportParts.{AirportParts}
use Rattle.http_framing.specs.Laws.{IsChoice}
use Rattle.http_framing.specs.declared.bodies.RequestRefusal.{RequestRefusal}
use Rattle.http_framing.specs.Requests.{HasRequest, Request}
use Rattle.http_framing.specs.Streams.{Ending, ended, cut, closed, malformed, IsOpen, Requests, Splits}
use Rattle.http_framing.proofs.OneReading.{HasRequest-unique, one_reading, request_ends}
use Rattle.http_framing.proofs.StreamLaws.{splits_more, whole_more}
use Rattle.desk_asks.specs.declared.asks.Ask.{Ask}
use Rattle.desk_asks.specs.declared.asks.Entry.{Entry}
use Rattle.desk_words.specs.declared.early.EarlyReply.{EarlyReply}
use Rattle.history_core.specs.History.{call_limit}
use Rattle.history_core.specs.Opening.{next_after}
use Rattle.desk_http.specs.Alone.{AloneAsks, numbers_from}
use Rattle.desk_http.specs.Answers.{AnswersTo, Sent, at_once, fed, given}
use Rattle.desk_http.specs.Complete.{AnswersEachBy, ComesToEnd, IsUnhindered}
use Rattle.desk_http.specs.Ports.{PortState}
use Rattle.desk_http.specs.Runs.{Runs}
use Rattle.desk_http.specs.Session.{EndsAfter, Last, SessionState, SessionBy, most_requests, nothing, refusal, reply}
use Rattle.desk_workers.specs.Watched.{FeedTexts}
use Rattle.desk_http.proofs.Complete.{GoesOnBehind, listed_behind, sessions_complete_by}
use Rattle.desk_http.proofs.OneDesk.{length-numbers_from}
use Rattle.apron_check.specs.declared.files.AirportFiles.{AirportFiles}
use Rattle.apron_run.specs.Complete.{HasInput, takes_number}
use Rattle.apron_run.specs.Desk.{AtDesk, ServesDesk, session_state, new_port}
use Rattle.apron_run.specs.End.{status_of}
use Rattle.apron_run.specs.Journal.{OpensTo}
use Rattle.apron_run.specs.World.{RunWorld}
use Rattle.apron_run.specs.declared.end.End.{End}
use Rattle.apron_run.specs.declared.end.End.TheVariants.{Served, Unusable as Unworkable}
use Rattle.apron_run.specs.declared.status.Status.TheVariants.{Done}
use Rattle.apron_run.proofs.Calls.{Leaves, run_leaves}
use Rattle.apron_run.proofs.Completing.{Well}
use Rattle.apron_run.proofs.Feeding.{as_plain, finds_spent, DeskAnswers, Sends, is_given}
use Rattle.apron_run.proofs.Valid.{HasJournal, opened_once, unopened_wants}

-- what a source that tells its bytes has left, and what was taken before it
record HasLeft (input taken : List ℕ) (left : Option (List ℕ)) : Type 0 where
  pub rest : List ℕ
  pub is : left ≡ Some rest
  pub front : input ≡ taken ++ rest

has_left : (input taken : List ℕ) (left : Option (List ℕ)) → Consumes (Some input) left taken → HasLeft input taken left
has_left input taken None h = absurd h
has_left input taken (Some rest) h = record { rest = rest; is = refl; front = h }

-- how many of these requests take a call number
abbrev count_of_asks : AirportParts → List Request → ℕ
count_of_asks airport requests = count_by (takes_number airport) requests

-- an input of this many requests ends between requests, or with one that closes the session, and a
-- session has not answered as many as it may before
abbrev EndsInTime : Ending → ℕ → Type 0
EndsInTime ended count = count < most_requests
EndsInTime closed count = count ≤ most_requests
EndsInTime ending count = ⊥

in_time : (input : List ℕ) (requests : List Request) → Requests input requests ended × (length requests < most_requests) ⊎ Requests input requests closed × (length requests ≤ most_requests)
    → (ending : Ending) × Requests input requests ending × EndsInTime ending (length requests)
in_time input requests (inl (reads, few)) = (ended, reads, few)
in_time input requests (inr (reads, few)) = (closed, reads, few)

module _ (feeds : FeedTexts) (airport : AirportParts) where
  -- a reply was given by the board exactly if something is asked of the plan
  sent_asks : (before after : PortState) (asked : Result Ask EarlyReply) (sent : Sent) → AnswersTo AloneAsks airport before asked (Ok sent) after → is_given sent ≡ is_ok asked
  sent_asks before after (Err early) (at_once sent) h = refl
  sent_asks before after (Err early) (given answer) h = absurd h
  sent_asks before after (Err early) (fed answer) h = absurd h
  sent_asks before after (Ok ask) (at_once sent) h = absurd h
  sent_asks before after (Ok ask) (fed answer) h = absurd h
  sent_asks before after (Ok ask) (given answer) h = refl

  -- or if the request takes a call number
  comes_ask : (before after : PortState) (request : Request) (sent : Sent) → Sends feeds airport before request sent after
      → is_given sent ≡ takes_number airport request
  comes_ask before after request sent comes =
      let plain = as_plain feeds airport before request sent after comes in
      sym plain.gives ∙ (sent_asks before after plain.asked plain.like plain.sends_like ∙ plain.asks)

  runs_ask : (before after : PortState) (requests : List Request) (sents : List Sent) → Runs (Sends feeds airport) before requests sents after
      → count_by is_given sents ≡ count_of_asks airport requests
  runs_ask before after [] [] same = refl
  runs_ask before after (request ∷ requests) (sent ∷ sents) (mid, one, rest) =
      let first : is_given sent ≡ takes_number airport request = comes_ask before mid request sent one in
      let more : count_by is_given sents ≡ count_of_asks airport requests = runs_ask mid after requests sents rest in
      sum_by-cons (λ (x : Sent). cond (is_given x) 1 0) sent sents
      ∙ (ap₂ (λ m n. m + n) (ap (λ b. cond b 1 0) first) more ∙ sym (sum_by-cons (λ (x : Request). cond (takes_number airport x) 1 0) request requests))
  runs_ask before after [] (sent ∷ sents) h = absurd h
  runs_ask before after (request ∷ requests) [] h = absurd h

  -- requests of which one takes a call number
  asks_with : (front : List Request) (request : Request) (back : List Request) → takes_number airport request ≡ true
      → count_of_asks airport front < count_of_asks airport (front ++ request ∷ back)
  asks_with front request back asks =
      let all : count_of_asks airport (front ++ request ∷ back) ≡ count_of_asks airport front + count_of_asks airport (request ∷ back) =
      sum_by-append (λ (x : Request). cond (takes_number airport x) 1 0) front (request ∷ back) in
      let rest : count_of_asks airport (request ∷ back) ≡ cond {A = ℕ} (takes_number airport request) 1 0 + count_of_asks airport back =
      sum_by-cons (λ (x : Request). cond (takes_number airport x) 1 0) request back in
      let one : cond {A = ℕ} (takes_number airport request) 1 0 ≡ 1 = ap (λ b. cond {A = ℕ} b 1 0) asks in
      omega arith

-- the request at the front of some bytes is the first that is listed of them
first_listed : (bytes : List ℕ) (request : Request) (behind : List ℕ) (listed : List Request) (ending : Ending) → HasRequest bytes request behind → Requests bytes listed ending
    → (more : List Request) × (listed ≡ request ∷ more)
first_listed bytes request behind [] ending whole reads = absurd (request_ends bytes request behind ending whole reads)
first_listed bytes request behind (first ∷ more) ending whole reads =
    let same = HasRequest-unique bytes request first behind reads.0 whole reads.1 in (more, ap (λ (r : Request). r ∷ more) (sym same.0))

-- no session finds its call numbers used up that has enough of them for its input
module _ (feeds : FeedTexts) (airport : AirportParts) (before after : SessionState) (input : List ℕ) (told : before.source.left ≡ Some input) (listed : List Request) (ending : Ending)
    (reads : Requests input listed ending) (session : SessionBy (DeskAnswers feeds airport) airport before after came.Spent) (none : before.port.calls ≡ [])
    (used : after.port.spent ≡ true → after.port.first + length after.port.calls ≡ call_limit)
    (numbers : before.port.first + count_of_asks airport listed ≤ call_limit) where
  at_last : (last : Last) → EndsAfter (DeskAnswers feeds airport) came.Spent session.done last session.served after.port → ⊥
  at_last nothing (request, first) =
      let done = session.done in
      let served : PortState = session.served in
      let took = session.took in
      let more : HasLeft input session.taken after.source.left =
      has_left input session.taken after.source.left (subst (λ l. Consumes l after.source.left session.taken) told took.left) in
      let splits : Splits input done.requests (done.rest ++ more.rest) =
      subst (λ i. Splits i done.requests (done.rest ++ more.rest)) (sym more.front) (splits_more session.taken more.rest done.rest done.requests session.splits) in
      let behind : GoesOnBehind done.requests listed (done.rest ++ more.rest) ending =
      listed_behind input (done.rest ++ more.rest) done.requests listed ending splits session.stay reads in
      let (others, next) = first_listed (done.rest ++ more.rest) request (first.behind ++ more.rest) behind.more ending
      (whole_more done.rest more.rest request first.behind first.first) behind.reads in
      let found = finds_spent feeds airport served request after.port first.comes in
      let are : listed ≡ done.requests ++ request ∷ others = behind.are ∙ ap (λ (rs : List Request). done.requests ++ rs) next in
      let count : ℕ = count_by is_given done.sents in
      let leaves : Leaves airport before.port served count = run_leaves airport feeds before.port served done.requests done.sents session.runs in
      let calls : served.calls ≡ numbers_from before.port.first (0 + count) = leaves.calls 0 none in
      let made : length served.calls ≡ 0 + count = ap length calls ∙ length-numbers_from before.port.first (0 + count) in
      let same_calls : length after.port.calls ≡ length served.calls = ap (λ (p : PortState). length p.calls) found.exhausted in
      let same_first : after.port.first ≡ before.port.first = ap (λ (p : PortState). p.first) found.exhausted ∙ leaves.first in
      let all : after.port.first + length after.port.calls ≡ call_limit = used (ap (λ (p : PortState). p.spent) found.exhausted) in
      let asked : count ≡ count_of_asks airport done.requests = runs_ask feeds airport before.port served done.requests done.sents session.runs in
      let fewer : count_of_asks airport done.requests < count_of_asks airport (done.requests ++ request ∷ others) = asks_with feeds airport done.requests request others found.asks in
      let most : count_of_asks airport listed ≡ count_of_asks airport (done.requests ++ request ∷ others) = ap (count_of_asks airport) are in
      absurd (omega arith)
  at_last (reply request sent) ends = absurd ends.0
  at_last (refusal why) ends = absurd ends.0

  spent_never : ⊥
  spent_never = at_last session.last session.ends

-- an input of requests that leave the session open doesn't end with one that closes it
open_not_closed : (bytes : List ℕ) (requests : List Request) → Requests bytes requests closed → All IsOpen requests → ⊥
open_not_closed bytes [] reads stay = reads
open_not_closed bytes (request ∷ requests) reads stay =
    open_not_closed reads.0 requests (reads.3 (All-head IsOpen request requests stay)) (All-tail IsOpen request requests stay)

not_cut : (ending : Ending) (count : ℕ) → EndsInTime ending count → (cut ≡ ending) ⊎ IsChoice cut ending → ⊥
not_cut ended count ends (inl is) = cc
not_cut ended count ends (inr choice) = choice
not_cut closed count ends (inl is) = cc
not_cut closed count ends (inr choice) = choice
not_cut other count ends same = ends

not_malformed : (ending : Ending) (count : ℕ) (why : RequestRefusal) → EndsInTime ending count → (malformed why ≡ ending) ⊎ IsChoice (malformed why) ending → ⊥
not_malformed ended count why ends (inl is) = cc
not_malformed ended count why ends (inr choice) = choice
not_malformed closed count why ends (inl is) = cc
not_malformed closed count why ends (inr choice) = choice
not_malformed other count why ends same = ends

-- a session whose input ends in time comes to that end
module _ (input : List ℕ) (listed : List Request) where
  not_limit : (ending : Ending) (requests : List Request) → Requests input listed ending → EndsInTime ending (length listed) → requests ≡ take most_requests listed
      → All IsOpen requests → length requests ≡ most_requests → ⊥
  not_limit ended requests reads ends are stay most =
      let all : take most_requests listed ≡ listed = take_all most_requests listed (omega arith) in
      let same : length requests ≡ length listed = ap length (are ∙ all) in
      absurd (omega arith)
  not_limit closed requests reads ends are stay most =
      let all : take most_requests listed ≡ listed = take_all most_requests listed ends in
      open_not_closed input listed reads (subst (All IsOpen) (are ∙ all) stay)
  not_limit other requests reads ends are stay most = ends

  comes_to_done : (outcome : Outcome) (ending : Ending) (requests : List Request) (last : List ℕ) → Requests input listed ending → EndsInTime ending (length listed)
      → requests ≡ take most_requests listed → ComesToEnd outcome input requests last → status_of (Served outcome) ≡ Done
  comes_to_done came.Ended ending requests last reads ends are to = refl
  comes_to_done came.Closed ending requests last reads ends are to = refl
  comes_to_done came.Cut ending requests last reads ends are to =
      absurd (not_cut ending (length listed) ends (one_reading input requests listed cut ending to.0 reads).1)
  comes_to_done came.Malformed ending requests last reads ends are (why, bad, is) =
      absurd (not_malformed ending (length listed) why ends (one_reading input requests listed (malformed why) ending bad reads).1)
  comes_to_done came.Limit ending requests last reads ends are (stay, most, none) = absurd (not_limit ending requests reads ends are stay most)
  comes_to_done other ending requests last reads ends are to = absurd to

-- a session on a journal
module _ (feeds : FeedTexts) (made : AirportFiles) (history : List Entry) (before after : RunWorld) (has : HasJournal made before.disk history)
    (valid : HasInput made.airport before.source history) (source : ¬ (Rose before.source.faults after.source.faults)) (sink : ¬ (Rose before.sink.faults after.sink.faults))
    (disk : ¬ (Rose before.disk.faults after.disk.faults)) where
  -- that had memory and call numbers enough
  other_well : (outcome : Outcome) → outcome ≢ came.Memory → outcome ≢ came.Spent → (opened : List Entry) → ServesDesk feeds made opened before after outcome → Well (status_of (Served outcome))
  other_well outcome memory spent opened serves =
      let start : SessionState = session_state before (new_port opened before.disk.faults) in
      let end : SessionState = session_state after serves.port in
      let free : IsUnhindered start end outcome = record { memory = memory; numbers = spent; source = source; sink = sink } in
      let each : AnswersEachBy (DeskAnswers feeds made.airport) made.airport start end outcome valid.input =
      sessions_complete_by (DeskAnswers feeds made.airport) made.airport start end outcome serves.session valid.input valid.told free in
      let (ending, reads, ends) = in_time valid.input valid.requests valid.reads in
      inl (comes_to_done valid.input valid.requests outcome ending each.requests each.last reads ends (each.each valid.requests ending reads) each.ends)

  numbers_last : (opened : List Entry) → OpensTo made before.disk opened → ServesDesk feeds made opened before after came.Spent → ⊥
  numbers_last opened opens serves =
      let same : opened ≡ history = opened_once made before.disk after.disk history has opened opens in
      let (ending, reads, ends) = in_time valid.input valid.requests valid.reads in
      spent_never feeds made.airport (session_state before (new_port opened before.disk.faults))
      (session_state after serves.port) valid.input valid.told valid.requests ending reads serves.session refl serves.spent
      (subst (λ (es : List Entry). next_after es + count_of_asks made.airport valid.requests ≤ call_limit) (sym same) valid.numbers)

  pub desk_well : (end : End) → AtDesk feeds made before after end → Well (status_of end)
  desk_well (Served came.Memory) at = inr refl
  desk_well (Served came.Spent) (opened, opens, (same, serves)) = absurd (numbers_last opened opens serves)
  desk_well (Served other) (opened, opens, (same, serves)) = other_well other (λ is. cc) (λ is. cc) opened serves
  desk_well (Unworkable why) at = inr (unopened_wants made before.disk after.disk history has why at.uses disk)
  desk_well end at = absurd at.2
