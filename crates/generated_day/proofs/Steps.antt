-- The steps of a day in the making.
use Rattle.std.proofs.Common.{◌≡◌, ℕ, subst, Result, Ok, Err, IfOk, ◌+◌, ◌%◌, true, false, refl, ap, add-one}
use Rattle.mvt_grammar.specs.declared.message.Mvt.{Mvt}
use Rattle.visit_book.specs.declared.visits.NewVisit.{NewVisit}
use Rattle.desk_asks.specs.declared.asks.Command.{Command}
use Rattle.desk_asks.specs.declared.asks.Command.TheVariants.{AddVisit, Message}
use Rattle.desk_words.specs.declared.replies.Reply.{Reply}
use Rattle.generated_day.specs.Asked.{drawn_visit, estimate, passed_on, put_first, scheduled_on}
use Rattle.generated_day.specs.DayAirport.{count_stands}
use Rattle.generated_day.specs.Days.{Day, IsAsked, IsDayOf, IsDelayed, IsPlaced, IsPutTried, IsTried, IsVisitAdded, IsVisitMade, MakesDay, count_bumped, is_accepted, plan_of, summary_of}
use Rattle.generated_day.specs.Draws.{draw_below, seed_after}
use Rattle.generated_day.specs.declared.summary.Summary.{Summary}
use Rattle.apron_base.specs.declared.listed.Memory.{Memory}

pub added-by : (number seed : ℕ) (day asked : Day) (new : NewVisit) (reply : Reply) → new ≡ drawn_visit number day.seed → IsAsked (AddVisit new) day reply asked → seed ≡ seed_after 4 asked.seed
    → IsVisitAdded number day (record asked { seed = seed })
added-by number seed day asked new reply same h drawn = (reply, (rw same at h.0, rw drawn (ap (λ (d : Day). record d { seed = seed_after 4 d.seed }) h.1)))

pub put-by : (number stand draft : ℕ) (day asked : Day) (command : Command) (reply : Reply) → command ≡ put_first day.draft (plan_of day).version number stand → IsAsked command day reply asked → draft ≡ asked.draft + 1
    → IsPutTried number stand day (record asked { draft = draft })
put-by number stand draft day asked command reply same h next = (reply, (rw same at h.0, rw next (ap (λ (d : Day). record d { draft = d.draft + 1 }) h.1)))

pub delayed-by : (number seed bumped : ℕ) (day asked : Day) (message : Mvt) (reply : Reply)
    → message ≡ estimate number (scheduled_on (plan_of day).visits number) (20 + draw_below 60 (seed_after 1 day.seed)) → IsAsked (Message (passed_on message)) day reply asked
    → seed ≡ seed_after 1 day.seed → bumped ≡ asked.bumped + count_bumped reply.told → IsDelayed number day (record asked { seed = seed; bumped = bumped })
delayed-by number seed bumped day asked message reply same h drawn more =
    (reply, (rw same at h.0, rw (drawn, more) (ap (λ (d : Day). record d { seed = seed_after 1 day.seed; bumped = d.bumped + count_bumped reply.told }) h.1)))

-- tries of a stand
pub tried-last : (turns more number first t : ℕ) (day put : Day) → turns ≡ more + 1 → IsPutTried number ((first + t) % count_stands) day put → is_accepted day put ≡ true → IsTried turns number first t day put
tried-last turns more number first t day put one h accepted = rw (one, add-one) (put, h, rw accepted refl)

pub tried-next : (turns more number first t : ℕ) (day put after : Day) → turns ≡ more + 1 → IsPutTried number ((first + t) % count_stands) day put → is_accepted day put ≡ false
    → IsTried more number first (t + 1) (record put { refused = put.refused + 1 }) after → IsTried turns number first t day after
tried-next turns more number first t day put after one h refused rest = rw (one, add-one) (put, h, rw refused rest)

pub tried-none : (turns number first t : ℕ) (day : Day) → turns ≡ 0 → IsTried turns number first t day day
tried-none turns number first t day none = rw none refl

-- the stand that was drawn comes first
pub placed-by : (number first seed : ℕ) (day after : Day) → first ≡ draw_below count_stands seed → seed ≡ seed_after 1 day.seed → IsTried 8 number first 0 (record day { seed = seed }) after → IsPlaced number day after
placed-by number first seed day after f s h =
    let At : ℕ → Type 0 = λ x. IsTried 8 number (draw_below count_stands x) 0 (record day { seed = x }) after in
    let From : ℕ → Type 0 = λ x. IsTried 8 number x 0 (record day { seed = seed }) after in
    subst At s (subst From f h)

-- one more visit
pub day-next : (visits : ℕ) (day after : Day) → IsDayOf visits day → IsVisitMade (visits + 1) day after → IsDayOf (visits + 1) after
day-next visits day after before made = rw (add-one visits) (day, before, made)

pub makes-by : (result : Result Summary Memory) (visits made : ℕ) (day : Day) → made ≡ visits → IsDayOf made day → IfOk result (λ summary. summary ≡ summary_of day) → IfOk result (MakesDay visits)
makes-by (Ok summary) visits made day all h is = (day, rw (← all) h, is)
makes-by (Err e) visits made day all h is = tt
