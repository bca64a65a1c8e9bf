-- Workers whose seats were cut from one seat and met it again, one more at a time; and what the
-- closed board then tells of them.
use Rattle.std.proofs.Common.{◌≡◌, ◌⊎◌, ◌∙◌, ◌<◌, ◌≤◌, ◌+◌, ◌-◌, ◌==◌, ◌&&◌, ◌||◌, nat_le, nat_lt, ℕ, suc, Bool, true, false, cond, List, [], ◌∷◌, ◌++◌, map, length, Option, Some, None, IfSome, refl, sym, ap, subst, inl, inr, ⊎_elim, arith, append_assoc}
use Rattle.std.specs.List.{Any, count_by, sum_by}
use Rattle.std.proofs.lemmas.Bool.Decides.{nat_tests}
use Rattle.std.proofs.lemmas.List.{append-nil, map-append}
use Rattle.std.proofs.lemmas.List.Sums.{sum_by-append, sum_by-cons}
use Rattle.apron_base.specs.Histories.{Every}
use Rattle.apron_base.specs.Listener.{ListenerState}
use Rattle.apron_base.specs.Machine.{MachineState}
use Rattle.apron_rules.specs.declared.parts.AirportParts.{AirportParts}
use Rattle.desk_asks.specs.declared.asks.Entry.{Entry}
use Rattle.history_core.specs.History.{IsLegal, call_of}
use Rattle.turn_board.specs.Board.{Closes, IsPutAtRisk, Meets, OpensTurnBoard, SeatState, TurnBoardState}
use Rattle.turn_board.specs.Totals.{below, times}
use Rattle.turn_board.specs.declared.view.Call.{Call}
use Rattle.turn_board.proofs.Totals.{every_append, every_both, every_front, every_more, every_rest, times_append}
use Rattle.desk_http.specs.Ports.{IsLater}
use Rattle.desk_http.specs.Session.{SessionKind}
use Rattle.desk_http.specs.declared.port.FeedAsk.{FeedAsk}
use Rattle.desk_workers.specs.declared.worker.WorkEnd.{WorkEnd}
use Rattle.desk_workers.specs.declared.worker.WorkEnd.TheVariants.{Done, ListenerFault}
use Rattle.desk_workers.specs.Crew.{CountsTold, DeskWorker, HasSeen, IsUnkeptOf, ServesBoard, TellsAtRisk, WorksAt, crew_calls, crew_faults, end_of}
use Rattle.desk_workers.specs.Seats.{SeatTurn, ServedState, board_and_share, call_number, faults_of, fixed_of, latest_at_risk, port_of}
use Rattle.desk_workers.specs.Together.{AreCutFrom, AreLater, HasCallOf, MeetsAll, StaysAtRisk, WorkAll, WorkEach, WorkTogether, WorksBeside}
use Rattle.desk_workers.specs.Feeds.{FeedTurns, kinds_at, seat_sessions}
use Rattle.desk_workers.specs.Work.{Connection, EndStates, HasSession, Works}
use Rattle.desk_workers.proofs.Any.{any_append, any_here, any_none, any_there}
use Rattle.desk_workers.proofs.Asking.{every_map}
use Rattle.desk_workers.proofs.AtRisk.{latest_is}
use Rattle.desk_workers.proofs.Faults.{counts_told}

abbrev Held : Type 0 → Type 0
Held Fixed = SeatState Entry Fixed

either_true : (one other : Bool) → other ≡ true → (one || other) ≡ true
either_true true other h = refl
either_true false other h = h

count_append : (test : ℕ → Bool) (xs ys : List ℕ) → count_by test (xs ++ ys) ≡ count_by test xs + count_by test ys
count_append test xs ys = sum_by-append (λ (call : ℕ). cond (test call) 1 0) xs ys

-- how often a number was called, by the calls' numbers alone
times_count : (number : ℕ) (calls : List (Call Entry)) → times number calls ≡ count_by (λ call. number == call) (map call_number calls)
times_count number [] = refl
times_count number (call ∷ calls) =
    let more = count_append (λ (own : ℕ). number == own) (call.number ∷ []) (map call_number calls) in
    let rest = times_count number calls in
    omega (arith, more, rest)

-- the end of a worker and the others
one_end : (end : WorkEnd) → end_of (end ∷ []) ≡ end
one_end Done = refl
one_end ListenerFault = refl

pub ends : (one others : WorkEnd) (more : List WorkEnd) → others ≡ end_of more → end_of (one ∷ others ∷ []) ≡ end_of (one ∷ more)
ends Done others more same = one_end others ∙ same
ends ListenerFault others more same = refl

module _ {In Out Fixed : Type 0} (states : EndStates In Out) (kind : SessionKind) (asked : ℕ) where
  -- what holds of a worker at a seat holds when that seat has met another
  beside : (before less mid other after : Held Fixed) → less.seen ≡ before.seen → Meets call_of mid other after → (worker : DeskWorker In Out)
      → WorksBeside states kind asked less mid worker → WorksBeside states kind asked before after worker
  beside before less mid other after same meets worker work =
      let numbers : map call_number after.calls ≡ map call_number mid.calls ++ map call_number other.calls = ap (map call_number) meets.calls ∙ map-append call_number mid.calls other.calls in
      let more : List Entry = meets.mine.rest in record {
        fresh = record { seen = work.fresh.seen ∙ same; calls = work.fresh.calls; at_risk = work.fresh.at_risk; spent = work.fresh.spent; faults = work.fresh.faults };
        works = work.works;
        seen = record {
          new = work.seen.new ++ more;
          is = meets.mine.is ∙ (ap (λ (seen : List Entry). seen ++ more) work.seen.is ∙ append_assoc worker.after.own.seen work.seen.new more);
          above = every_both (λ (call : ℕ). Every (λ (entry : Entry). call < call_of entry) work.seen.new) (λ (call : ℕ). Every (λ (entry : Entry). call < call_of entry) more)
              (λ (call : ℕ). Every (λ (entry : Entry). call < call_of entry) (work.seen.new ++ more)) (λ call a b. every_append (λ (entry : Entry). call < call_of entry) work.seen.new more a b)
              worker.after.own.calls work.seen.above (work.own more (every_map (λ (call : ℕ). Every (λ (entry : Entry). call < call_of entry) more) mid.calls meets.mine.later));
        };
        own = λ entries later. work.own entries (every_front (λ (call : ℕ). Every (λ (entry : Entry). call < call_of entry) entries) (map call_number mid.calls) (map call_number other.calls)
            (subst (λ (calls : List ℕ). AreLater calls entries) numbers later));
        exhausted = λ spent. meets.note ∙ ap (λ (note : Bool). note || other.exhausted) (work.exhausted spent);
      }

  -- a worker whose seat met that of the others
  itself : (before mid after : Held Fixed) (started ended : ServedState Fixed) (a b : ListenerState In Out) (one : WorkEnd)
      → started.seat ≡ record before { calls = []; exhausted = false; share = 1 }
      → Works (HasSession states kind) asked (record { listener = a; own = port_of started }) (record { listener = b; own = port_of ended }) one
      → Meets call_of mid ended.seat after
      → WorksBeside states kind asked before after (record { before = record { listener = a; own = port_of started }; after = record { listener = b; own = port_of ended }; end = one })
  itself before mid after started ended a b one mine works meets =
      let own : List (Call Entry) = ended.seat.calls in
      let numbers : map call_number after.calls ≡ map call_number mid.calls ++ map call_number own = ap (map call_number) meets.calls ∙ map-append call_number mid.calls own in record {
        fresh = record {
          seen = ap (λ (seat : Held Fixed). seat.seen) mine;
          calls = ap (λ (seat : Held Fixed). map call_number seat.calls) mine;
          at_risk = ap (λ (seat : Held Fixed). latest_at_risk seat.calls) mine;
          spent = ap (λ (seat : Held Fixed). seat.exhausted) mine;
          faults = ap (λ (seat : Held Fixed). sum_by faults_of seat.calls) mine;
        };
        works = works;
        seen = record {
          new = meets.theirs.rest;
          is = meets.theirs.is;
          above = every_map (λ (call : ℕ). Every (λ (entry : Entry). call < call_of entry) meets.theirs.rest) own meets.theirs.later;
        };
        own = λ entries later. every_rest (λ (call : ℕ). Every (λ (entry : Entry). call < call_of entry) entries) (map call_number mid.calls) (map call_number own)
            (subst (λ (calls : List ℕ). AreLater calls entries) numbers later);
        exhausted = λ spent. meets.note ∙ either_true mid.exhausted ended.seat.exhausted spent;
      }

  longest_of : (before less mid other after : Held Fixed) (worker : DeskWorker In Out) (workers : List (DeskWorker In Out)) → less.seen ≡ before.seen → Meets call_of mid other after
      → other.seen ≡ worker.after.own.seen → (mid.seen ≡ less.seen) ⊎ Any (HasSeen mid.seen) workers → (after.seen ≡ before.seen) ⊎ Any (HasSeen after.seen) (worker ∷ workers)
  longest_of before less mid other after worker workers same meets its longest = ⊎_elim
      (λ (mine : after.seen ≡ mid.seen). ⊎_elim
      (λ (none : mid.seen ≡ less.seen). inl (mine ∙ (none ∙ same)))
      (λ (one : Any (HasSeen mid.seen) workers). inr (any_there (HasSeen after.seen) worker workers (subst (λ (seen : List Entry). Any (HasSeen {In = In} {Out = Out} seen) workers) (sym mine) one)))
      longest)
      (λ (theirs : after.seen ≡ other.seen). inr (any_here (HasSeen after.seen) worker workers (sym (theirs ∙ its))))
      meets.one

  -- an entry that a call put at risk is that of a call from before, or the one that the worker or
  -- one of the others tells
  at_risk_of : (before less mid other after : Held Fixed) (worker : DeskWorker In Out) (workers : List (DeskWorker In Out)) → less.calls ≡ before.calls → after.calls ≡ mid.calls ++ other.calls
      → worker.after.own.at_risk ≡ latest_at_risk other.calls
      → ((entry : Entry) → HasCallOf entry mid.calls → StaysAtRisk entry mid.calls → HasCallOf entry less.calls ⊎ Any (TellsAtRisk entry) workers)
      → (entry : Entry) → HasCallOf entry after.calls → StaysAtRisk entry after.calls → HasCallOf entry before.calls ⊎ Any (TellsAtRisk entry) (worker ∷ workers)
  at_risk_of before less mid other after worker workers same calls its rest entry has stays =
      let all : StaysAtRisk entry (mid.calls ++ other.calls) = subst (StaysAtRisk entry) calls stays in ⊎_elim
      (λ (front : HasCallOf entry mid.calls). ⊎_elim
      (λ (was : HasCallOf entry less.calls). inl (subst (HasCallOf entry) same was))
      (λ (one : Any (TellsAtRisk entry) workers). inr (any_there (TellsAtRisk entry) worker workers one))
      (rest entry front (every_front (λ (call : Call Entry). call_of entry ≤ call.number → call.at_risk ≡ Some entry) mid.calls other.calls all)))
      (λ (back : HasCallOf entry other.calls). inr (any_here (TellsAtRisk entry) worker workers
      (its ∙ latest_is entry other.calls back (every_rest (λ (call : Call Entry). call_of entry ≤ call.number → call.at_risk ≡ Some entry) mid.calls other.calls all))))
      (any_append (λ (call : Call Entry). call.number ≡ call_of entry) mid.calls other.calls (subst (HasCallOf entry) calls has))

  -- a worker, and the others beside it
  one_more : (before less mid after : Held Fixed) (started ended : ServedState Fixed) (a b : ListenerState In Out) (olds news : List (ListenerState In Out)) (one others : WorkEnd)
      → less ≡ record before { share = before.share - 1 } → started.seat ≡ record before { calls = []; exhausted = false; share = 1 }
      → Works (HasSession states kind) asked (record { listener = a; own = port_of started }) (record { listener = b; own = port_of ended }) one
      → WorkTogether states kind asked (record { listeners = olds; seat = less }) (record { listeners = news; seat = mid }) others
      → Meets call_of mid ended.seat after
      → WorkTogether states kind asked (record { listeners = a ∷ olds; seat = before }) (record { listeners = b ∷ news; seat = after }) (end_of (one ∷ others ∷ []))
  one_more before less mid after started ended a b olds news one others less_is mine works rest meets =
      let worker : DeskWorker In Out = record { before = record { listener = a; own = port_of started }; after = record { listener = b; own = port_of ended }; end = one } in
      let same : less.seen ≡ before.seen = ap (λ (seat : Held Fixed). seat.seen) less_is in
      let more : List Entry = meets.mine.rest in record {
        workers = worker ∷ rest.workers;
        begun = ap (λ (listeners : List (ListenerState In Out)). a ∷ listeners) rest.begun;
        ended = ap (λ (listeners : List (ListenerState In Out)). b ∷ listeners) rest.ended;
        end_is = ends one others (map (λ (w : DeskWorker In Out). w.end) rest.workers) rest.end_is;
        work = (
          itself before mid after started ended a b one mine works meets,
          every_more (WorksBeside states kind asked less mid) (WorksBeside states kind asked before after) (beside before less mid ended.seat after same meets) rest.workers rest.work,
        );
        begins = record {
          new = rest.begins.new ++ more;
          is = meets.mine.is ∙ (ap (λ (seen : List Entry). seen ++ more) (rest.begins.is ∙ ap (λ (seen : List Entry). seen ++ rest.begins.new) same) ∙ append_assoc before.seen rest.begins.new more);
          above = tt;
        };
        longest = longest_of before less mid ended.seat after worker rest.workers same meets refl rest.longest;
        calls = λ number.
            let all = ap (times number) meets.calls ∙ times_append number mid.calls ended.seat.calls in
            let own = times_count number ended.seat.calls in
            let theirs = rest.calls number in
            let less_calls = ap (λ (seat : Held Fixed). times number seat.calls) less_is in
            let counts = count_append (λ (call : ℕ). number == call) (map call_number ended.seat.calls) (crew_calls rest.workers) in
            omega (arith, all, own, theirs, less_calls, counts);
        told =
            let all = ap (sum_by faults_of) meets.calls ∙ sum_by-append faults_of mid.calls ended.seat.calls in
            let less_calls = ap (λ (seat : Held Fixed). sum_by faults_of seat.calls) less_is in
            let crew = sum_by-cons (λ (w : DeskWorker In Out). w.after.own.faults) worker rest.workers in
            let theirs = rest.told in
            omega (arith, all, theirs, less_calls, crew);
        at_risk = at_risk_of before less mid ended.seat after worker rest.workers (ap (λ (seat : Held Fixed). seat.calls) less_is) meets.calls refl rest.at_risk;
      }

  -- no worker
  none_works : (seat : Held Fixed) → WorkTogether states kind asked (record { listeners = []; seat = seat }) (record { listeners = []; seat = seat }) Done
  none_works seat = record {
    workers = [];
    begun = refl;
    ended = refl;
    end_is = refl;
    work = tt;
    begins = record { new = []; is = sym (append-nil seat.seen); above = tt };
    longest = inl refl;
    calls = λ number. omega arith;
    told = omega arith;
    at_risk = λ entry has stays. inl has;
  }

-- the workers of the front and of the rest
module _ {In Out L S State Fixed : Type 0} (serves : Fixed → State → Connection In Out → State → Type 0) (fixed : S → Fixed) (state : S → State)
    (listens : L → ListenerState In Out) (asked : ℕ) where
  pub no_work : (owns : List S) (listeners : List L) → length owns ≡ length listeners → length listeners ≡ 0
      → WorkAll serves fixed state listens asked owns listeners owns listeners Done
  no_work [] [] same none = refl
  no_work owns (listener ∷ listeners) same none = absurd (omega arith)
  no_work (own ∷ owns) [] same none = absurd (omega arith)

  pub of_front : (front news rest others : List S) (first lefts more lasts : List L) (one end all : WorkEnd) → length front ≡ 1 → length first ≡ 1
      → WorkEach serves fixed state listens asked front first news lefts one → WorkAll serves fixed state listens asked rest more others lasts end
      → all ≡ end_of (one ∷ end ∷ [])
      → WorkAll serves fixed state listens asked (front ++ rest) (first ++ more) (news ++ others) (lefts ++ lasts) all
  of_front (old ∷ []) (new ∷ []) rest others (listener ∷ []) (left ∷ []) more lasts one end all single only each work is = (one, end, each.0, work, is)
  of_front [] news rest others first lefts more lasts one end all single only each work is = absurd (omega arith)
  of_front (old ∷ other ∷ front) news rest others first lefts more lasts one end all single only each work is = absurd (omega arith)
  of_front (old ∷ []) news rest others [] lefts more lasts one end all single only each work is = absurd (omega arith)
  of_front (old ∷ []) news rest others (listener ∷ other ∷ first) lefts more lasts one end all single only each work is = absurd (omega arith)
  of_front (old ∷ []) [] rest others (listener ∷ []) [] more lasts one end all single only each work is = absurd each
  of_front (old ∷ []) [] rest others (listener ∷ []) (left ∷ lefts) more lasts one end all single only each work is = absurd each
  of_front (old ∷ []) (new ∷ news) rest others (listener ∷ []) [] more lasts one end all single only each work is = absurd each
  of_front (old ∷ []) (new ∷ other ∷ news) rest others (listener ∷ []) (left ∷ lefts) more lasts one end all single only each work is = absurd each.1
  of_front (old ∷ []) (new ∷ []) rest others (listener ∷ []) (left ∷ other ∷ lefts) more lasts one end all single only each work is = absurd each.1

module _ {Fixed : Type 0} where
  -- one port more was cut
  pub cut_more : (before mid : Held Fixed) (ports : List (ServedState Fixed)) (port : ServedState Fixed) → AreCutFrom before ports mid
      → port.seat ≡ record mid { calls = []; exhausted = false; share = 1 } → AreCutFrom before (ports ++ port ∷ []) (record mid { share = mid.share - 1 })
  cut_more before mid [] port cut own =
      (subst (λ (seat : Held Fixed). port.seat ≡ record seat { calls = []; exhausted = false; share = 1 }) cut own, ap (λ (seat : Held Fixed). record seat { share = seat.share - 1 }) cut)
  cut_more before mid (first ∷ ports) port cut own = (cut.0, cut_more (record before { share = before.share - 1 }) mid ports port cut.1 own)

  -- the last port was met
  pub meet_more : (before between after : Held Fixed) (ports : List (ServedState Fixed)) (port : ServedState Fixed) → Meets call_of before port.seat between
      → MeetsAll between ports after → MeetsAll before (ports ++ port ∷ []) after
  meet_more before between after [] port meets all = (before, refl, subst (Meets call_of before port.seat) (sym all) meets)
  meet_more before between after (first ∷ ports) port meets all = (all.0, meet_more before between all.0 ports port meets all.1, all.2)

-- workers over ports that were cut from a seat of this board, and whose seats it met
module _ {In Out L Fixed : Type 0} (states : EndStates In Out) (state : L → ListenerState In Out) (text : Fixed → FeedAsk → List Entry → List ℕ) (airport : Fixed → AirportParts) (asked : ℕ)
    (board : TurnBoardState Fixed) where
  -- what is fixed of a port, and its airport
  abbrev fixed_at : ServedState Fixed → (TurnBoardState Fixed × ℕ) × AirportParts
  fixed_at port = (board_and_share port, airport (fixed_of port))

  abbrev kinds : Fixed → SessionKind
  kinds fixed = seat_sessions (text fixed) (airport fixed)

  abbrev pub Over : List (ServedState Fixed) → List L → List (ServedState Fixed) → List L → WorkEnd → Type 0
  Over = WorkAll (λ (at : (TurnBoardState Fixed × ℕ) × AirportParts). HasSession states (kinds_at SeatTurn (λ (fixed : TurnBoardState Fixed × ℕ). FeedTurns (text fixed.0.start.fixed)) at))
      fixed_at port_of state asked

  pub together : (before less after : Held Fixed) (olds news : List (ServedState Fixed)) (listeners lefts : List L) (end : WorkEnd)
      → AreCutFrom before olds less → Every (λ (port : ServedState Fixed). port.board ≡ board) olds → Over olds listeners news lefts end → MeetsAll less news after
      → WorkTogether states (kinds board.start.fixed) asked (record { listeners = map state listeners; seat = before }) (record { listeners = map state lefts; seat = after }) end
  together before less after [] [] [] [] end cut own work meets =
      subst (λ (e : WorkEnd). WorkTogether states (kinds board.start.fixed) asked (record { listeners = []; seat = before }) (record { listeners = []; seat = after }) e) (sym work)
      (subst (λ (seat : Held Fixed). WorkTogether states (kinds board.start.fixed) asked (record { listeners = []; seat = before }) (record { listeners = []; seat = seat }) Done) (sym (meets ∙ cut))
      (none_works states (kinds board.start.fixed) asked before))
  together before less after (old ∷ olds) (new ∷ news) (listener ∷ listeners) (left ∷ lefts) end cut own work meets =
      let one : WorkEnd = work.0 in
      let more : WorkEnd = work.1 in
      let rest = together (record before { share = before.share - 1 }) less meets.0 olds news listeners lefts more cut.1 own.1 work.3 meets.1 in
      let works : Works (HasSession states (kinds board.start.fixed)) asked (record { listener = state listener; own = port_of old }) (record { listener = state left; own = port_of new }) one =
      subst (λ (at : Fixed). Works (HasSession states (kinds at)) asked (record { listener = state listener; own = port_of old }) (record { listener = state left; own = port_of new }) one)
      (ap (λ (b : TurnBoardState Fixed). b.start.fixed) own.0) work.2.0 in
      subst (λ (e : WorkEnd). WorkTogether states (kinds board.start.fixed) asked (record { listeners = map state (listener ∷ listeners); seat = before })
      (record { listeners = map state (left ∷ lefts); seat = after }) e) (sym work.4)
      (one_more states (kinds board.start.fixed) asked before (record before { share = before.share - 1 }) meets.0 after old new (state listener) (state left) (map state listeners) (map state lefts) one more
      refl cut.0 works rest meets.2)
  together before less after [] news (listener ∷ listeners) lefts end cut own work meets = absurd work
  together before less after [] (new ∷ news) [] lefts end cut own work meets = absurd work
  together before less after [] [] [] (left ∷ lefts) end cut own work meets = absurd work
  together before less after (old ∷ olds) news [] lefts end cut own work meets = absurd work
  together before less after (old ∷ olds) [] (listener ∷ listeners) lefts end cut own work meets = absurd work
  together before less after (old ∷ olds) (new ∷ news) (listener ∷ listeners) [] end cut own work meets = absurd work

  -- as many ports are left as there were
  pub same_count : (olds news : List (ServedState Fixed)) (listeners lefts : List L) (end : WorkEnd) → Over olds listeners news lefts end → length news ≡ length olds
  same_count [] [] [] [] end work = refl
  same_count (old ∷ olds) (new ∷ news) (listener ∷ listeners) (left ∷ lefts) end work = ap (λ (n : ℕ). suc n) (same_count olds news listeners lefts work.1 work.3)
  same_count [] news (listener ∷ listeners) lefts end work = absurd work
  same_count [] (new ∷ news) [] lefts end work = absurd work
  same_count [] [] [] (left ∷ lefts) end work = absurd work
  same_count (old ∷ olds) news [] lefts end work = absurd work
  same_count (old ∷ olds) [] (listener ∷ listeners) lefts end work = absurd work
  same_count (old ∷ olds) (new ∷ news) (listener ∷ listeners) [] end work = absurd work

  -- they are still ports of the board
  pub still_own : (olds news : List (ServedState Fixed)) (listeners lefts : List L) (end : WorkEnd) → Every (λ (port : ServedState Fixed). port.board ≡ board) olds
      → Over olds listeners news lefts end → Every (λ (port : ServedState Fixed). port.board ≡ board) news
  still_own [] [] [] [] end own work = tt
  still_own (old ∷ olds) (new ∷ news) (listener ∷ listeners) (left ∷ lefts) end own work =
      (ap (λ (at : (TurnBoardState Fixed × ℕ) × AirportParts). at.0.0) work.2.1 ∙ own.0, still_own olds news listeners lefts work.1 own.1 work.3)
  still_own [] news (listener ∷ listeners) lefts end own work = absurd work
  still_own [] (new ∷ news) [] lefts end own work = absurd work
  still_own [] [] [] (left ∷ lefts) end own work = absurd work
  still_own (old ∷ olds) news [] lefts end own work = absurd work
  still_own (old ∷ olds) [] (listener ∷ listeners) lefts end own work = absurd work
  still_own (old ∷ olds) (new ∷ news) (listener ∷ listeners) [] end own work = absurd work

  -- and the seat has its shares again
  pub shares_back : (before less after : Held Fixed) (olds news : List (ServedState Fixed)) (listeners lefts : List L) (end : WorkEnd) → length olds ≤ before.share
      → AreCutFrom before olds less → Over olds listeners news lefts end → MeetsAll less news after → after.share ≡ before.share
  shares_back before less after [] [] [] [] end few cut work meets = ap (λ (seat : Held Fixed). seat.share) (meets ∙ cut)
  shares_back before less after (old ∷ olds) (new ∷ news) (listener ∷ listeners) (left ∷ lefts) end few cut work meets =
      let one : old.seat.share ≡ 1 = ap (λ (seat : Held Fixed). seat.share) cut.0 in
      let same : new.seat.share ≡ old.seat.share = ap (λ (at : (TurnBoardState Fixed × ℕ) × AirportParts). at.0.1) work.2.1 in
      let rest = shares_back (record before { share = before.share - 1 }) less meets.0 olds news listeners lefts work.1 (omega arith) cut.1 work.3 meets.1 in
      let added = meets.2.share in omega arith
  shares_back before less after [] news (listener ∷ listeners) lefts end few cut work meets = absurd work
  shares_back before less after [] (new ∷ news) [] lefts end few cut work meets = absurd work
  shares_back before less after [] [] [] (left ∷ lefts) end few cut work meets = absurd work
  shares_back before less after (old ∷ olds) news [] lefts end few cut work meets = absurd work
  shares_back before less after (old ∷ olds) [] (listener ∷ listeners) lefts end few cut work meets = absurd work
  shares_back before less after (old ∷ olds) (new ∷ news) (listener ∷ listeners) [] end few cut work meets = absurd work

-- the calls of a closed board are the numbers from the first one up to the end
once : (first end number count : ℕ) → first ≤ end → count + below number first ≡ below number end → count ≡ cond (nat_le first number && nat_lt number end) 1 0
once first end number count order counts = grind (arith, nat_tests)

-- an entry at risk after a board's history is the one that a worker tells, if no call was made
-- before
unkept : {In Out : Type 0} (workers : List (DeskWorker In Out)) (calls : List (Call Entry)) (history : List Entry) (risk : Option Entry)
    → ((entry : Entry) → HasCallOf entry calls → StaysAtRisk entry calls → HasCallOf entry [] ⊎ Any (TellsAtRisk entry) workers)
    → IfSome risk (IsPutAtRisk call_of calls history) → IfSome risk (IsUnkeptOf workers history)
unkept workers calls history None told put = tt
unkept workers calls history (Some entry) told put = record {
  by = ⊎_elim
      (λ (before : HasCallOf entry []). absurd (any_none (λ (call : Call Entry). call.number ≡ call_of entry) before))
      (λ (one : Any (TellsAtRisk entry) workers). one)
      (told entry put.by put.stays);
  since = put.since;
}

-- `kinds` says of which kind the sessions are, by the fixed part
module _ {In Out Fixed : Type 0} (states : EndStates In Out) (kinds : Fixed → SessionKind) (asked : ℕ) where
  pub serves : (machine left : MachineState Entry Fixed) (board : TurnBoardState Fixed) (first last : Held Fixed) (olds news : List (ListenerState In Out)) (end : WorkEnd)
      → OpensTurnBoard machine board first
      → WorkTogether states (kinds board.start.fixed) asked (record { listeners = olds; seat = first }) (record { listeners = news; seat = last }) end
      → Closes call_of board last left → IsLegal (kinds left.fixed).airport left.history
      → ServesBoard states kinds asked (record { listeners = olds; board = machine }) (record { listeners = news; board = left }) end
  serves machine left board first last olds news end opens together closes legal =
      let fixed : board.start.fixed ≡ machine.fixed = ap (λ s. s.fixed) opens.start in
      let next : board.start.first ≡ machine.next = ap (λ s. s.first) opens.start in
      let faults : board.start.faults ≡ machine.faults = ap (λ s. s.faults) opens.start in
      let seen : first.seen ≡ machine.history = ap (λ (seat : Held Fixed). seat.seen) opens.first in
      let none : (number : ℕ) → times number first.calls ≡ 0 = λ number. ap (λ (seat : Held Fixed). times number seat.calls) opens.first in record {
        workers = together.workers;
        begun = together.begun;
        ended = together.ended;
        end_is = together.end_is;
        work = every_more (WorksBeside states (kinds board.start.fixed) asked first last) (WorksAt states kinds asked machine left) (λ worker work. record {
          fresh = record { seen = work.fresh.seen ∙ seen; calls = work.fresh.calls; at_risk = work.fresh.at_risk; spent = work.fresh.spent; faults = work.fresh.faults };
          works = subst (λ (at : Fixed). Works (HasSession states (kinds at)) asked worker.before worker.after worker.end) fixed work.works;
          seen = subst (λ (history : List Entry). IsLater worker.after.own.seen worker.after.own.calls history) (sym closes.history) work.seen;
        }) together.workers together.work;
        fixed = closes.fixed ∙ fixed;
        legal = legal;
        begins = record {
          new = together.begins.new;
          is = closes.history ∙ (together.begins.is ∙ ap (λ (history : List Entry). history ++ together.begins.new) seen);
          above = tt;
        };
        longest = ⊎_elim
            (λ (same : last.seen ≡ first.seen). inl (closes.history ∙ (same ∙ seen)))
            (λ (one : Any (HasSeen last.seen) together.workers). inr (subst (λ (history : List Entry). Any (HasSeen {In = In} {Out = Out} history) together.workers) (sym closes.history) one))
            together.longest;
        last = closes.end;
        order = (let low = closes.order.0 in omega arith, closes.order.1);
        calls = λ number.
            let all = closes.calls number in
            let own = together.calls number in
            let start = none number in
            subst (λ (least : ℕ). count_by (λ call. number == call) (crew_calls together.workers) ≡ cond (nat_le least number && nat_lt number closes.end) 1 0) next
            (once board.start.first closes.end number (count_by (λ call. number == call) (crew_calls together.workers)) closes.order.0 (omega arith));
        exhausted = every_more (WorksBeside states (kinds board.start.fixed) asked first last) (λ (worker : DeskWorker In Out). worker.after.own.spent ≡ true → closes.end ≡ _)
            (λ worker work spent. closes.exhausted (work.exhausted spent)) together.workers together.work;
        faults = let rose = closes.rose in omega arith;
        told = subst (λ (least : ℕ). CountsTold (crew_faults together.workers) least left.faults) faults
            (counts_told board.start.faults left.faults last.calls (crew_faults together.workers) closes.faults closes.rose
            (let told = together.told in let start = ap (λ (seat : Held Fixed). sum_by faults_of seat.calls) opens.first in omega (arith, told, start)));
        at_risk = unkept together.workers last.calls left.history left.at_risk
            (subst (λ (calls : List (Call Entry)). (entry : Entry) → HasCallOf entry last.calls → StaysAtRisk entry last.calls → HasCallOf entry calls ⊎ Any (TellsAtRisk entry) together.workers)
            (ap (λ (seat : Held Fixed). seat.calls) opens.first) together.at_risk)
            closes.at_risk;
      }
