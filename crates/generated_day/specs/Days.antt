-- How a day is made: visit by visit, over a history that grows.
use Rattle.std.specs.Prelude.{◌≡◌, ◌+◌, ◌/◌, ◌%◌, ◌==◌, ℕ, zero, suc, nat_lt, Bool, List, [], length, count_by, not}
use Rattle.std.specs.Bool.{MatchBool}
use Rattle.std.specs.List.{flat_map}
use Rattle.visit_book.specs.Places.{stand_of}
use Rattle.visit_book.specs.declared.visits.Part.{Part}
use Rattle.visit_book.specs.declared.visits.Visit.{Visit}
use Rattle.desk_asks.specs.declared.asks.Command.{Command}
use Rattle.desk_asks.specs.declared.asks.Command.TheVariants.{AddVisit, Message}
use Rattle.desk_asks.specs.declared.asks.Entry.{Entry}
use Rattle.desk_asks.specs.declared.asks.What.TheVariants.{Change}
use Rattle.desk_words.specs.declared.replies.Reply.{Reply}
use Rattle.desk_words.specs.declared.replies.ReplyBody.{ReplyBody}
use Rattle.desk_words.specs.declared.replies.ReplyBody.TheVariants.{Message as MessageTaken}
use Rattle.std.specs.Option.{is_some}
use Rattle.history_core.specs.Answer.{GivesAnswer, replied}
use Rattle.history_core.specs.History.{replay}
use Rattle.plan_core.specs.PlanState.{PlanState}
use Rattle.generated_day.specs.Asked.{drawn_visit, estimate, passed_on, put_first, scheduled_on}
use Rattle.generated_day.specs.DayAirport.{count_stands, day_airport}
use Rattle.generated_day.specs.Draws.{draw_below, seed_after}
use Rattle.generated_day.specs.declared.summary.Summary.{Summary}

-- a day in the making: its history, the number of the next call, the generator's number, the number
-- of the next draft, and how many commits were refused and how many parts were reported as bumped
-- so far
pub record Day : Type 0 where
  pub history : List Entry
  pub next : ℕ
  pub seed : ℕ
  pub draft : ℕ
  pub refused : ℕ
  pub bumped : ℕ

-- nothing was asked or drawn yet
abbrev pub first_day : Day
first_day = record { history = []; next = 1; seed = 1; draft = 1; refused = 0; bumped = 0 }

-- the plan of the day as it is
abbrev pub plan_of : Day → PlanState
plan_of day = replay day_airport day.history

-- this was asked with the next call number, and this is the plan's reply to it
abbrev pub IsAsked : Command → Day → Reply → Day → Type 0
IsAsked command day reply after =
    GivesAnswer day_airport day.history day.next (record { seen = 0; what = Change command })
    (replied reply) after.history
    × (after ≡ record day { history = after.history; next = day.next + 1 })

-- the entry of what was asked was added
abbrev pub is_accepted : Day → Day → Bool
is_accepted day after = nat_lt (length day.history) (length after.history)

-- the visit of this number was drawn, and asked to be added
abbrev pub IsVisitAdded : ℕ → Day → Day → Type 0
IsVisitAdded number day after =
    (reply : Reply) × IsAsked (AddVisit (drawn_visit number day.seed))
    (record day { seed = seed_after 4 day.seed }) reply after

-- the next draft asked to put the visit on the stand
abbrev pub IsPutTried : ℕ → ℕ → Day → Day → Type 0
IsPutTried number stand day after =
    (reply : Reply) × IsAsked (put_first day.draft (plan_of day).version number stand)
    (record day { draft = day.draft + 1 }) reply after

-- the visit was tried on at most this many consecutive stands, from the t-th after the first on,
-- until one accepted
abbrev pub IsTried : ℕ → ℕ → ℕ → ℕ → Day → Day → Type 0
IsTried zero number first t day after = after ≡ day
IsTried (suc turns) number first t day after =
    (put : Day) × IsPutTried number ((first + t) % count_stands) day put
    × MatchBool (is_accepted day put) (after ≡ put)
    (IsTried turns number first (t + 1) (record put { refused = put.refused + 1 }) after)

-- a stand was drawn, and it and the seven after it were tried
abbrev pub IsPlaced : ℕ → Day → Day → Type 0
IsPlaced number day after =
    let seed = seed_after 1 day.seed in
    IsTried 8 number (draw_below count_stands seed) 0 (record day { seed = seed }) after

-- how many parts a message's reply names as bumped
abbrev pub count_bumped : ReplyBody → ℕ
count_bumped (MessageTaken parts visit) = length parts
count_bumped told = 0

-- a delay was drawn, and a message said that the visit of this number is late by this delay and 20
-- minutes
abbrev pub IsDelayed : ℕ → Day → Day → Type 0
IsDelayed number day after =
    let seed = seed_after 1 day.seed in let on = scheduled_on (plan_of day).visits number in
    (reply : Reply) × IsAsked (Message (passed_on (estimate number on (20 + draw_below 60 seed))))
    (record day { seed = seed; bumped = day.bumped + count_bumped reply.told }) reply after

-- what is made with the visit of this number: it is added and placed, and with each fourth visit
-- the visit of half its number is delayed
abbrev pub IsVisitMade : ℕ → Day → Day → Type 0
IsVisitMade number day after =
    (added : Day) × (placed : Day) × IsVisitAdded number day added × IsPlaced number added placed
    × MatchBool (number % 4 == 0) (IsDelayed (number / 2) placed after) (after ≡ placed)

-- the day of this many visits
abbrev pub IsDayOf : ℕ → Day → Type 0
IsDayOf zero after = after ≡ first_day
IsDayOf (suc visits) after = (day : Day) × IsDayOf visits day × IsVisitMade (visits + 1) day after

-- the parts of the visits
abbrev pub parts_of : List Visit → List Part
parts_of visits = flat_map (λ visit. visit.parts) visits

-- the part is on a stand
abbrev pub is_placed : Part → Bool
is_placed part = is_some (stand_of part.place)

-- the part is on no stand
abbrev pub is_unplaced : Part → Bool
is_unplaced part = not (is_placed part)

-- what there is at the end
abbrev pub summary_of : Day → Summary
summary_of day = let plan = plan_of day in record {
  visits = length plan.visits;
  placed = count_by is_placed (parts_of plan.visits);
  unplaced = count_by is_unplaced (parts_of plan.visits);
  refused = day.refused;
  bumped = day.bumped;
  version = plan.version;
}

-- the most visits of a generated day
abbrev pub most_made : ℕ
most_made = 5000

-- the summary of a generated day of this many visits
abbrev pub MakesDay : ℕ → Summary → Type 0
MakesDay visits summary = (day : Day) × IsDayOf visits day × (summary ≡ summary_of day)
