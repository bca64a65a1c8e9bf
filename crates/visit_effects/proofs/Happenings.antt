-- What happens to a visit keeps what it was added with, and adds no record of what took a stand.
use Rattle.std.proofs.Common.{◌≡◌, ◌<◌, ◌+◌, ◌-◌, ◌∷◌, [], ◌==◌, ◌&&◌, ℕ, Bool, true, false, cond, List, None, not, refl, subst, sym, arith, eq-eqb}
use Rattle.std.specs.Prelude.{Err, IfSome, Ok, Option, Result, Some, find, nat_lt, ok_or, option_and_then, slice_index_or}
use Rattle.std.proofs.lemmas.Bool.Decides.{nat_tests}
use Rattle.std.proofs.lemmas.List.Elements.{All-contains, All-contains_itself, All-from_recursion, recursion_from_All}
use Rattle.apron_base.specs.ResultChain.{◌>>=◌, refuse_if}
use Rattle.apron_base.specs.declared.numbers.StandNo.{StandNo}
use Rattle.apron_base.specs.declared.numbers.VisitNo.{VisitNo}
use Rattle.mvt_grammar.specs.declared.message.Mvt.{Mvt}
use Rattle.apron_rules.specs.declared.parts.AirportParts.{AirportParts}
use Rattle.apron_rules.specs.Rules.{least_of}
use Rattle.visit_book.specs.declared.reports.Event.{Event}
use Rattle.visit_book.specs.declared.reports.Event.TheVariants.{On, Off}
use Rattle.visit_book.specs.declared.reports.ReportFault.TheVariants.{Gone, NoSuchPart, Time}
use Rattle.visit_book.specs.declared.visits.Bump.{Bump}
use Rattle.visit_book.specs.declared.visits.Part.{Part}
use Rattle.visit_book.specs.declared.visits.Place.{Place}
use Rattle.visit_book.specs.declared.visits.Place.TheVariants.{Unplaced, Planned, Actual}
use Rattle.visit_book.specs.declared.visits.Visit.{Visit}
use Rattle.visit_book.specs.Changes.{has_actual_behind, push_of}
use Rattle.visit_book.specs.Ends.{is_live}
use Rattle.visit_book.specs.Movements.{arrive_of, depart_of, estimate_off_of, first_starts_before, has_time_to_tow, in_fact, visit_after_arrival, visit_after_departure}
use Rattle.visit_book.specs.Numbers.{IsNumbered, IsNumberedAbove, visit_at}
use Rattle.visit_book.specs.PartFields.{part_at}
use Rattle.visit_book.specs.Reports.{report_of, visit_after_event}
use Rattle.visit_book.specs.WellFormed.{plan_end}
use Rattle.visit_book.proofs.Kept.{made_where}
use Rattle.visit_book.proofs.OnStands.{arrive_places, depart_places, expected_places}
use Rattle.visit_book.proofs.Stands.{AllPlaces, push_places}
use Rattle.visit_effects.specs.ClockTimes.{is_of_month, latest_day, plan_minute_of}
use Rattle.visit_effects.specs.declared.effects.Happening.{Happening}
use Rattle.visit_effects.specs.declared.effects.Happening.TheVariants.{Touchdown, OnBlock, ExpectedOff, OffBlock}
use Rattle.visit_effects.specs.declared.effects.MessageFacts.{MessageFacts}
use Rattle.visit_effects.specs.Effects.{changed_at, changed_by, effect_of, facts_of, is_meant, scheduled_minute, visit_meant}
use Rattle.visit_effects.specs.Happenings.{IsBumpOf, IsOneOf, IsOneVisit}

-- the record of what took a stand that a place has, if any, is one of these parts
abbrev HasKnownBump : List Part → Place → Type 0
HasKnownBump parts place = (bump : Bump) → place ≡ Unplaced (Some bump) → IsBumpOf parts bump

known_of : (parts : List Part) → AllPlaces (HasKnownBump parts) parts
known_of parts =
    recursion_from_All (λ (part : Part). HasKnownBump parts part.place) parts
    (λ k d below. λ bump is. record { part = slice_index_or parts k d; among = All-contains_itself parts k d below; place = is })

known_in_fact : (parts : List Part) (place : Place) → HasKnownBump parts place → HasKnownBump parts (in_fact place)
known_in_fact parts (Unplaced bump) h = h
known_in_fact parts (Planned stand) h = λ bump is. absurd (cc)
known_in_fact parts (Actual stand) h = λ bump is. absurd (cc)

known_given : (parts : List Part) (given : Option StandNo) → IfSome given (λ stand. HasKnownBump parts (Planned stand))
known_given parts None = tt
known_given parts (Some stand) = λ bump is. absurd (cc)

bumps_of : (before after : List Part) → AllPlaces (HasKnownBump before) after → (bump : Bump) → IsBumpOf after bump → IsBumpOf before bump
bumps_of before after known bump found =
    All-contains (λ (part : Part). HasKnownBump before part.place) after found.part
    (All-from_recursion (λ (part : Part). HasKnownBump before part.place) after known) found.among bump found.place

pushed_is_one : (airport : AirportParts) (number from : ℕ) (visit : Visit) → IsOneVisit visit (push_of airport number from visit)
pushed_is_one airport number from visit = record {
  number = refl;
  new = refl;
  added = refl;
  edited = refl;
  bumps = bumps_of visit.parts (push_of airport number from visit).parts
      (push_places (HasKnownBump visit.parts) airport.tow (least_of airport visit.kind) from (number - 1) visit.parts (known_of visit.parts));
}

arrived_is_one : (airport : AirportParts) (number at : ℕ) (given : Option StandNo) (visit : Visit) → IsOneVisit visit (visit_after_arrival airport number at given visit)
arrived_is_one airport number at given visit = record {
  number = refl;
  new = refl;
  added = refl;
  edited = refl;
  bumps = bumps_of visit.parts (visit_after_arrival airport number at given visit).parts
      (arrive_places (HasKnownBump visit.parts) airport.tow (least_of airport visit.kind) (number - 1) (at - airport.tow) at given visit.parts
      (known_in_fact visit.parts) (known_given visit.parts given) (known_of visit.parts));
}

estimated_is_one : (airport : AirportParts) (at : ℕ) (visit : Visit) → IsOneVisit visit (estimate_off_of airport at visit)
estimated_is_one airport at visit = record {
  number = refl;
  new = refl;
  added = refl;
  edited = refl;
  bumps = bumps_of visit.parts (estimate_off_of airport at visit).parts
      (expected_places (HasKnownBump visit.parts) (least_of airport visit.kind) at visit.parts (known_of visit.parts));
}

departed_is_one : (at : ℕ) (visit : Visit) → IsOneVisit visit (visit_after_departure at visit)
departed_is_one at visit = record {
  number = refl;
  new = refl;
  added = refl;
  edited = refl;
  bumps = bumps_of visit.parts (visit_after_departure at visit).parts
      (depart_places (HasKnownBump visit.parts) at visit.parts (known_in_fact visit.parts) (known_of visit.parts));
}

arrive_is_one : (airport : AirportParts) (number at : ℕ) (given : Option StandNo) (visit after : Visit) → arrive_of airport number at given visit ≡ Some after
    → IsOneVisit visit after
arrive_is_one airport number at given visit after is =
    made_where (not (has_actual_behind number visit) && has_time_to_tow airport.tow number at visit.parts) (visit_after_arrival airport number at given visit) after
    (IsOneVisit visit) is (λ passed. arrived_is_one airport number at given visit)

depart_is_one : (at : ℕ) (visit after : Visit) → depart_of at visit ≡ Some after → IsOneVisit visit after
depart_is_one at visit after is =
    made_where (first_starts_before at visit.parts) (visit_after_departure at visit) after (IsOneVisit visit) is (λ passed. departed_is_one at visit)

-- What messages make of one of some visits.

not_on_block : (airport : AirportParts) (at : ℕ) (visit after : Visit) (on_block : Bool)
    → cond on_block None (arrive_of airport 1 at None visit) ≡ Some after → IsOneVisit visit after
not_on_block airport at visit after true is = absurd (cc)
not_on_block airport at visit after false is = arrive_is_one airport 1 at None visit after is

changed_is_one : (airport : AirportParts) (moment : Happening) (at : ℕ) (visit after : Visit) → changed_at airport moment at visit ≡ Some after
    → IsOneVisit visit after
changed_is_one airport Touchdown at visit after is =
    made_where (not visit.on_block && nat_lt (at + airport.taxi_in) (plan_end airport)) (push_of airport 1 (at + airport.taxi_in) visit) after
    (IsOneVisit visit) is (λ passed. pushed_is_one airport 1 (at + airport.taxi_in) visit)
changed_is_one airport OnBlock at visit after is = not_on_block airport at visit after visit.on_block is
changed_is_one airport ExpectedOff at visit after is =
    made_where true (estimate_off_of airport at visit) after (IsOneVisit visit) is (λ passed. estimated_is_one airport at visit)
changed_is_one airport OffBlock at visit after is = depart_is_one at visit after is

-- if something is made of an optional value, the value exists
had : {X Y : Type 0} (f : X → Option Y) (found : Option X) (y : Y) → option_and_then f found ≡ Some y → (x : X) × (found ≡ Some x) × (f x ≡ Some y)
had f None y is = absurd (cc)
had f (Some x) y is = (x, refl, is)

unlike : (a b : ℕ) → a < b → (a == b) ≡ false
unlike a b h = grind (arith, nat_tests)

found_first : (number : ℕ) (first : Visit) (visits : List Visit) → first.number.0 ≡ number + 1
    → (number < first.number.0) × (visit_at (first ∷ visits) first.number ≡ Some first)
found_first number first visits is = (omega arith, rw (eq-eqb first.number.0 first.number.0 refl) refl)

found_behind : (number : ℕ) (first visit : Visit) (visits : List Visit) → first.number.0 ≡ number + 1
    → (number + 1 < visit.number.0) × (visit_at visits visit.number ≡ Some visit)
    → (number < visit.number.0) × (visit_at (first ∷ visits) visit.number ≡ Some visit)
found_behind number first visit visits is h =
    let above : number + 1 < visit.number.0 = h.0 in
    let below : first.number.0 < visit.number.0 = omega arith in
    (omega arith, rw (unlike first.number.0 visit.number.0 below) h.1)

found_when : (number : ℕ) (passed : Bool) (first visit : Visit) (visits : List Visit) (later : Option Visit) → first.number.0 ≡ number + 1
    → (later ≡ Some visit → (number + 1 < visit.number.0) × (visit_at visits visit.number ≡ Some visit)) → cond passed (Some first) later ≡ Some visit
    → (number < visit.number.0) × (visit_at (first ∷ visits) visit.number ≡ Some visit)
found_when number true first visit visits later numbered behind is =
    let same : first ≡ visit = cc in
    subst (λ (v : Visit). (number < v.number.0) × (visit_at (first ∷ visits) v.number ≡ Some v)) same (found_first number first visits numbered)
found_when number false first visit visits later numbered behind is = found_behind number first visit visits numbered (behind is)

-- a visit that is found among visits numbered above a number is the one of its number
numbered_found : (test : Visit → Bool) (number : ℕ) (visits : List Visit) (visit : Visit) → IsNumberedAbove number visits → find test visits ≡ Some visit
    → (number < visit.number.0) × (visit_at visits visit.number ≡ Some visit)
numbered_found test number [] visit numbered is = absurd (cc)
numbered_found test number (first ∷ visits) visit numbered is =
    found_when number (test first) first visit visits (find test visits) numbered.0 (numbered_found test (number + 1) visits visit numbered.1) is

-- what a message makes of one of some visits is still that visit
pub effect_is_one : (airport : AirportParts) (visits : List Visit) (message : Mvt) (after : Visit) → IsNumbered visits
    → effect_of airport visits message ≡ Some after → IsOneOf visits after
effect_is_one airport visits message after numbered is =
    let told = had (λ (told : MessageFacts). option_and_then (changed_by airport told) (visit_meant airport visits told.moment message)) (facts_of airport message) after is in
    let meant = had (changed_by airport told.0) (visit_meant airport visits told.0.moment message) after told.2 in
    let day = had (λ (day : ℕ). find (is_meant told.0.moment message.flight day) visits) (latest_day (is_of_month airport message.day) 0 (airport.days + 1)) meant.0 meant.1 in
    let at = had (λ (at : ℕ). changed_at airport told.0.moment at meant.0) (plan_minute_of airport (scheduled_minute told.0.moment meant.0) told.0.clock) after meant.2 in
    let one : IsOneVisit meant.0 after = changed_is_one airport told.0.moment at.0 meant.0 after at.2 in
    record {
      before = meant.0;
      found = subst (λ (number : VisitNo). visit_at visits number ≡ Some meant.0) (sym one.number)
          (numbered_found (is_meant told.0.moment message.flight day.0) 0 visits meant.0 numbered day.2).1;
      one = one;
    }

-- What reports make of visits.

done : {X Y E : Type 0} (first : Result X E) (next : X → Result Y E) (y : Y) → (first >>= next) ≡ Ok y → (x : X) × (first ≡ Ok x) × (next x ≡ Ok y)
done (Ok x) next y is = (x, refl, is)
done (Err fault) next y is = absurd (cc)

was_some : {X E : Type 0} (found : Option X) (fault : E) (x : X) → ok_or found fault ≡ Ok x → found ≡ Some x
was_some None fault x is = absurd (cc)
was_some (Some y) fault x is = cc

happened_is_one : (airport : AirportParts) (event : Event) (before after : Visit) → visit_after_event airport event before ≡ Ok after → IsOneVisit before after
happened_is_one airport (On part stand minute) before after is =
    let found = done (ok_or (part_at before.parts part) NoSuchPart)
    (λ (found : Part). refuse_if (not (nat_lt minute (plan_end airport))) Time >>= (λ within. ok_or (arrive_of airport part minute (Some stand) before) Time)) after is in
    let within = done (refuse_if (not (nat_lt minute (plan_end airport))) Time) (λ within. ok_or (arrive_of airport part minute (Some stand) before) Time) after found.2 in
    arrive_is_one airport part minute (Some stand) before after (was_some (arrive_of airport part minute (Some stand) before) Time after within.2)
happened_is_one airport (Off minute) before after is =
    let within = done (refuse_if (not (nat_lt minute (plan_end airport))) Time) (λ within. ok_or (depart_of minute before) Time) after is in
    depart_is_one minute before after (was_some (depart_of minute before) Time after within.2)

-- what a report makes of a visit is still that visit
pub report_is_one : (airport : AirportParts) (event : Event) (before after : Visit) → report_of airport event before ≡ Ok after → IsOneVisit before after
report_is_one airport event before after is =
    let live = done (refuse_if (not (is_live before)) Gone) (λ live. visit_after_event airport event before) after is in
    happened_is_one airport event before after live.2
