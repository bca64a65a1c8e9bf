-- A visit stays well formed when it comes on block, is expected off block, or goes.
use Rattle.std.proofs.Common.{◌≡◌, ◌≤◌, ◌<◌, ◌+◌, ◌-◌, ◌∷◌, [], ◌&&◌, ℕ, zero, suc, Bool, true, List, None, length, map, not, refl, arith}
use Rattle.std.specs.Prelude.{Option, Some, IfSome, filter, nat_le, slice_get}
use Rattle.std.specs.Option.{option_map_or}
use Rattle.std.proofs.lemmas.Bool.Decides.{nat_tests}
use Rattle.std.proofs.lemmas.List.Sums.{count_by-le-length, length-filter}
use Rattle.apron_base.specs.declared.numbers.StandNo.{StandNo}
use Rattle.apron_rules.specs.declared.parts.AirportParts.{AirportParts}
use Rattle.apron_rules.specs.Rules.{IsAirport, least_of}
use Rattle.visit_book.specs.declared.visits.End.TheVariants.{Cancelled, Live}
use Rattle.visit_book.specs.declared.visits.Part.{Part}
use Rattle.visit_book.specs.declared.visits.Place.{Place}
use Rattle.visit_book.specs.declared.visits.Place.TheVariants.{Unplaced, Planned, Actual}
use Rattle.visit_book.specs.declared.visits.Visit.{Visit}
use Rattle.visit_book.specs.Changes.{has_actual_behind}
use Rattle.visit_book.specs.Movements.{arrive_of, depart_of, estimate_off_of, first_starts_before, has_time_to_tow, in_fact, last_ended, last_expected, made_actual, starts_before, visit_after_arrival, visit_after_departure}
use Rattle.visit_book.specs.PartFields.{part_at}
use Rattle.visit_book.specs.Places.{IsPlaceOf}
use Rattle.visit_book.specs.WellFormed.{IsWellFormed, plan_end}
use Rattle.visit_book.proofs.Arrivals.{IsFrom, IsTowable, arrive_follows, depart_follows, expected_follows}
use Rattle.visit_book.proofs.Kept.{IsAllowed, made_where, pace_of, part_at-suc, places_of, times_of, well_formed_by, with_parts_kept}
use Rattle.visit_book.proofs.Least.{least_of_some}
use Rattle.visit_book.proofs.OnStands.{arrive_length, arrive_places, depart_places, expected_length, expected_places, left_length}
use Rattle.visit_book.proofs.Stands.{AllPlaces, places_by}
use Rattle.visit_book.proofs.Times.{Follow, Pace}

-- the stand stays one of the airport's
in_fact_of : (airport : AirportParts) (place : Place) → IsPlaceOf airport place → IsPlaceOf airport (in_fact place)
in_fact_of airport (Unplaced bump) h = h
in_fact_of airport (Planned stand) h = h
in_fact_of airport (Actual stand) h = h

stands_of : (airport : AirportParts) (visit : Visit) → IsWellFormed airport visit → AllPlaces (IsPlaceOf airport) visit.parts
stands_of airport visit h = places_by (IsAllowed airport visit) (IsPlaceOf airport) visit.parts (λ place at. at.stand) (places_of airport visit h)

-- any place of the airport is allowed to a visit on block that is not cancelled
allowed_on_block : (airport : AirportParts) (visit : Visit) (parts : List Part) → visit.on_block ≡ true → (visit.end ≡ Cancelled → ⊥)
    → AllPlaces (IsPlaceOf airport) parts → AllPlaces (IsAllowed airport visit) parts
allowed_on_block airport visit parts on left h =
    places_by (IsPlaceOf airport) (IsAllowed airport visit) parts
    (λ place at. record { stand = at; fact = λ off. absurd (cc); cancelled = λ over. absurd (left over) }) h

towable_of : (tow place at : ℕ) (parts : List Part) → option_map_or (λ part. nat_le (part.from + 1 + tow) at) (part_at parts place) true ≡ true → IsTowable tow place parts at
towable_of tow zero at parts h = tt
towable_of tow (suc place) at parts h = towable_by tow at (slice_get parts place) (rw (part_at-suc parts place) at h)
  where
    towable_by : (tow at : ℕ) (found : Option Part) → option_map_or (λ part. nat_le (part.from + 1 + tow) at) found true ≡ true
        → IfSome found (λ part. part.from + 1 + tow ≤ at)
    towable_by tow at None h = tt
    towable_by tow at (Some part) h = grind (arith, nat_tests)

from_of : (place at : ℕ) → IsFrom 0 place at
from_of zero at = omega arith
from_of (suc place) at = tt

arrived_kept : (airport : AirportParts) (number at : ℕ) (given : Option StandNo) (visit : Visit) → IsAirport airport → IsWellFormed airport visit → visit.end ≡ Live
    → 1 ≤ number → number ≤ length visit.parts → at < plan_end airport → IfSome given (λ stand. stand.0 < length airport.stands)
    → has_time_to_tow airport.tow number at visit.parts ≡ true → IsWellFormed airport (visit_after_arrival airport number at given visit)
arrived_kept airport number at given visit airports h live some within early stand time =
    let new : Visit = visit_after_arrival airport number at given visit in
    let pace : Pace = pace_of airport visit.kind in
    let count : length new.parts ≡ length visit.parts = arrive_length airport.tow (least_of airport visit.kind) (number - 1) (at - airport.tow) at given visit.parts in
    well_formed_by airport new h.kind h.class (omega (arith, h.some)) (omega (arith, h.few))
    (arrive_follows pace 0 (number - 1) at given visit.parts (least_of_some airport visit.kind airports h.kind) early h.few (omega arith) (from_of (number - 1) at)
    (towable_of airport.tow (number - 1) at visit.parts time) (times_of airport visit h))
    (allowed_on_block airport new new.parts refl (λ over. absurd (cc))
    (arrive_places (IsPlaceOf airport) airport.tow (least_of airport visit.kind) (number - 1) (at - airport.tow) at given visit.parts (in_fact_of airport) stand
    (stands_of airport visit h)))

-- a live visit stays well formed when it comes on block at a minute of the plan
pub arrive_keeps : (airport : AirportParts) (number at : ℕ) (given : Option StandNo) (visit new : Visit) → IsAirport airport → IsWellFormed airport visit
    → visit.end ≡ Live → 1 ≤ number → number ≤ length visit.parts → at < plan_end airport → IfSome given (λ stand. stand.0 < length airport.stands)
    → arrive_of airport number at given visit ≡ Some new → IsWellFormed airport new
arrive_keeps airport number at given visit new airports h live some within early stand is =
    made_where (not (has_actual_behind number visit) && has_time_to_tow airport.tow number at visit.parts) (visit_after_arrival airport number at given visit) new
    (IsWellFormed airport) is
    (λ passed. arrived_kept airport number at given visit airports h live some within early stand (second_of (not (has_actual_behind number visit)) _ passed))
  where
    second_of : (a b : Bool) → (a && b) ≡ true → b ≡ true
    second_of a b h = grind (arith, nat_tests)

-- a visit stays well formed when it is expected off block at a minute of the plan
pub estimate_off_keeps : (airport : AirportParts) (at : ℕ) (visit : Visit) → IsAirport airport → IsWellFormed airport visit → at < plan_end airport
    → IsWellFormed airport (estimate_off_of airport at visit)
estimate_off_keeps airport at visit airports h early =
    let least : ℕ = least_of airport visit.kind in
    let parts : List Part = last_expected least at visit.parts in
    let count : length parts ≡ length visit.parts = expected_length least at visit.parts in
    with_parts_kept airport visit parts h (omega (arith, h.some)) (omega (arith, h.few))
    (expected_follows (pace_of airport visit.kind) 0 at visit.parts (least_of_some airport visit.kind airports h.kind) early (times_of airport visit h))
    (expected_places (IsAllowed airport visit) least at visit.parts (places_of airport visit h))

-- the first part starts before the minute, and so is left
first_left : (at : ℕ) (part : Part) (parts : List Part) → starts_before at part ≡ true → filter (starts_before at) (part ∷ parts) ≡ part ∷ filter (starts_before at) parts
first_left at part parts is = rw is refl

gone_follows : (pace : Pace) (at : ℕ) (parts : List Part) → first_starts_before at parts ≡ true → at < pace.end → Follow pace 0 parts
    → Follow pace 0 (map made_actual (last_ended at (filter (starts_before at) parts)))
gone_follows pace at [] first early h = tt
gone_follows pace at (part ∷ parts) first early h =
    rw (first_left at part parts first) (depart_follows pace 0 at part parts (grind (arith, nat_tests)) early h)

gone_some : (at : ℕ) (parts : List Part) → first_starts_before at parts ≡ true → 1 ≤ length (filter (starts_before at) parts)
gone_some at [] first = absurd (cc)
gone_some at (part ∷ parts) first = rw (first_left at part parts first) (omega arith)

filtered_few : (at : ℕ) (parts : List Part) → length (filter (starts_before at) parts) ≤ length parts
filtered_few at parts = omega (arith, length-filter (starts_before at) parts, count_by-le-length (starts_before at) parts)

departed_kept : (airport : AirportParts) (at : ℕ) (visit : Visit) → IsWellFormed airport visit → at < plan_end airport → first_starts_before at visit.parts ≡ true
    → IsWellFormed airport (visit_after_departure at visit)
departed_kept airport at visit h early first =
    let new : Visit = visit_after_departure at visit in
    let count : length new.parts ≡ length (filter (starts_before at) visit.parts) = left_length at (filter (starts_before at) visit.parts) in
    well_formed_by airport new h.kind h.class (omega (arith, gone_some at visit.parts first)) (omega (arith, h.few, filtered_few at visit.parts))
    (gone_follows (pace_of airport visit.kind) at visit.parts first early (times_of airport visit h))
    (allowed_on_block airport new new.parts refl (λ over. absurd (cc)) (depart_places (IsPlaceOf airport) at visit.parts (in_fact_of airport) (stands_of airport visit h)))

-- a visit stays well formed when it goes at a minute of the plan
pub depart_keeps : (airport : AirportParts) (at : ℕ) (visit new : Visit) → IsWellFormed airport visit → at < plan_end airport
    → depart_of at visit ≡ Some new → IsWellFormed airport new
depart_keeps airport at visit new h early is =
    made_where (first_starts_before at visit.parts) (visit_after_departure at visit) new (IsWellFormed airport) is (λ first. departed_kept airport at visit h early first)
