-- Changes keep a visit well formed.
use Rattle.std.proofs.Common.{◌≡◌, ◌≤◌, ◌<◌, ◌+◌, ◌-◌, ◌++◌, ◌∷◌, [], ◌==◌, ◌&&◌, ℕ, zero, suc, Bool, true, false, List, None, length, take, drop, refl, arith, subst}
use Rattle.std.specs.Prelude.{All, Option, Some, IfSome, if◌then◌else◌, option_and_then, option_map, slice_get}
use Rattle.std.specs.List.{AllByRecursion}
use Rattle.std.proofs.lemmas.Bool.Decides.{nat_tests}
use Rattle.std.proofs.lemmas.List.Elements.{All-from_recursion, recursion_from_All}
use Rattle.apron_base.specs.declared.numbers.TypeNo.{TypeNo}
use Rattle.apron_rules.specs.declared.parts.AirportParts.{AirportParts}
use Rattle.apron_rules.specs.Rules.{IsAirport, least_of}
use Rattle.visit_book.specs.declared.visits.End.TheVariants.{Cancelled}
use Rattle.visit_book.specs.declared.visits.NewVisit.{NewVisit}
use Rattle.visit_book.specs.declared.visits.Part.{Part}
use Rattle.visit_book.specs.declared.visits.Place.{Place}
use Rattle.visit_book.specs.declared.visits.Visit.{Visit}
use Rattle.visit_book.specs.Changes.{IsTowedBy, cut_first, cut_of, has_few, is_long_enough, join_first, join_of, push_of, pushed_from, with_parts}
use Rattle.visit_book.specs.NewVisits.{IsNewVisitOf, added_visit}
use Rattle.visit_book.specs.PartFields.{most_parts, part_at}
use Rattle.visit_book.specs.Places.{IsPlaceOf, is_actual, stand_of}
use Rattle.visit_book.specs.WellFormed.{IsEarlyIfShort, IsWellFormed, greatest_class, latest_end, plan_end}
use Rattle.visit_book.proofs.Least.{least_of_some}
use Rattle.visit_book.proofs.Stands.{AllPlaces, cut_length, cut_places, join_length, join_places, places_by, push_length, push_places}
use Rattle.visit_book.proofs.Times.{Follow, IsAfter, Pace, cut_follows, follow_by, join_follows, late_of, push_follows, short_of, spaced_of, towed_after}

-- the times that the airport and the type give
abbrev pub pace_of : AirportParts → TypeNo → Pace
pace_of airport kind = record { end = plan_end airport; tow = airport.tow; least = least_of airport kind }

-- a part of the visit may have this place
pub record IsAllowed (airport : AirportParts) (visit : Visit) (place : Place) : Type 0 where
  pub stand : IsPlaceOf airport place
  pub fact : visit.on_block ≡ false → is_actual place ≡ false
  pub cancelled : visit.end ≡ Cancelled → stand_of place ≡ None

pub times_of : (airport : AirportParts) (visit : Visit) → IsWellFormed airport visit → Follow (pace_of airport visit.kind) 0 visit.parts
times_of airport visit h =
    follow_by (pace_of airport visit.kind) 0 visit.parts h.spaced (recursion_from_All (λ part. part.to ≤ latest_end airport visit.kind) visit.parts h.ends)
    (recursion_from_All (IsEarlyIfShort airport visit.kind) visit.parts h.short)

allowed_by : (airport : AirportParts) (visit : Visit) (parts : List Part) → AllByRecursion (λ part. IsPlaceOf airport part.place) parts
    → (visit.on_block ≡ false → AllByRecursion (λ part. is_actual part.place ≡ false) parts)
    → (visit.end ≡ Cancelled → AllByRecursion (λ part. stand_of part.place ≡ None) parts)
    → AllPlaces (IsAllowed airport visit) parts
allowed_by airport visit [] places facts cancelled = tt
allowed_by airport visit (part ∷ parts) places facts cancelled = (
  record { stand = places.0; fact = λ off. (facts off).0; cancelled = λ over. (cancelled over).0 },
  allowed_by airport visit parts places.1 (λ off. (facts off).1) (λ over. (cancelled over).1),
)

pub places_of : (airport : AirportParts) (visit : Visit) → IsWellFormed airport visit → AllPlaces (IsAllowed airport visit) visit.parts
places_of airport visit h =
    allowed_by airport visit visit.parts (recursion_from_All (λ part. IsPlaceOf airport part.place) visit.parts h.places)
    (λ off. recursion_from_All (λ part. is_actual part.place ≡ false) visit.parts (h.facts off))
    (λ over. recursion_from_All (λ part. stand_of part.place ≡ None) visit.parts (h.cancelled over))

each_place : (Holds : Place → Type 0) (parts : List Part) → AllPlaces Holds parts → All (λ part. Holds part.place) parts
each_place Holds parts h = All-from_recursion (λ part. Holds part.place) parts h

-- a visit is well formed if its type and its class are, and its one to three parts follow one
-- another at places that it may have
pub well_formed_by : (airport : AirportParts) (visit : Visit) → visit.kind.0 < length airport.types → visit.class ≤ greatest_class
    → 1 ≤ length visit.parts → length visit.parts ≤ most_parts → Follow (pace_of airport visit.kind) 0 visit.parts → AllPlaces (IsAllowed airport visit) visit.parts
    → IsWellFormed airport visit
well_formed_by airport visit kind class some few times places = record {
  kind = kind;
  class = class;
  some = some;
  few = few;
  spaced = spaced_of (pace_of airport visit.kind) 0 visit.parts times;
  ends = All-from_recursion (λ part. part.to ≤ latest_end airport visit.kind) visit.parts (late_of (pace_of airport visit.kind) 0 visit.parts times);
  short = All-from_recursion (IsEarlyIfShort airport visit.kind) visit.parts (short_of (pace_of airport visit.kind) 0 visit.parts times);
  places = each_place (IsPlaceOf airport) visit.parts (places_by (IsAllowed airport visit) (IsPlaceOf airport) visit.parts (λ place h. h.stand) places);
  facts = λ off. each_place (λ place. is_actual place ≡ false) visit.parts (places_by (IsAllowed airport visit) (λ place. is_actual place ≡ false) visit.parts (λ place h. h.fact off) places);
  cancelled = λ over. each_place (λ place. stand_of place ≡ None) visit.parts (places_by (IsAllowed airport visit) (λ place. stand_of place ≡ None) visit.parts (λ place h. h.cancelled over) places);
}

-- a visit stays well formed with other such parts
pub with_parts_kept : (airport : AirportParts) (visit : Visit) (parts : List Part) → IsWellFormed airport visit → 1 ≤ length parts → length parts ≤ most_parts
    → Follow (pace_of airport visit.kind) 0 parts → AllPlaces (IsAllowed airport visit) parts → IsWellFormed airport (with_parts visit parts)
with_parts_kept airport visit parts h some few times places =
    well_formed_by airport (with_parts visit parts) h.kind h.class some few times
    (places_by (IsAllowed airport visit) (IsAllowed airport (with_parts visit parts)) parts (λ place at. record { stand = at.stand; fact = at.fact; cancelled = at.cancelled }) places)

pub part_at-suc : (parts : List Part) (place : ℕ) → part_at parts (suc place) ≡ slice_get parts place
part_at-suc parts place =
    let later : (suc place == 0) ≡ false = grind (arith, nat_tests) in
    let before : suc place - 1 ≡ place = omega arith in
    rw (later, before) refl

towed_is_after : (airport : AirportParts) (from place : ℕ) (parts : List Part) → IfSome (part_at parts place) (λ part. part.to + airport.tow ≤ from)
    → IsAfter airport.tow 0 place parts from
towed_is_after airport from zero parts h = omega arith
towed_is_after airport from (suc place) parts h = towed_after airport.tow 0 place from parts (rw (part_at-suc parts place) at h)

-- a part that is towed in time can be pushed to a minute of the plan
pub push_keeps : (airport : AirportParts) (number from : ℕ) (visit : Visit) → IsAirport airport → IsWellFormed airport visit → from < plan_end airport
    → IsTowedBy airport number from visit → IsWellFormed airport (push_of airport number from visit)
push_keeps airport number from visit airports h early towed =
    let least : ℕ = least_of airport visit.kind in
    let parts : List Part = take (number - 1) visit.parts ++ pushed_from airport.tow least from (drop (number - 1) visit.parts) in
    let count : length parts ≡ length visit.parts = push_length airport.tow least from (number - 1) visit.parts in
    with_parts_kept airport visit parts h (omega (arith, h.some)) (omega (arith, h.few))
    (push_follows (pace_of airport visit.kind) 0 from (number - 1) visit.parts (least_of_some airport visit.kind airports h.kind) early h.few
    (towed_is_after airport from (number - 1) visit.parts towed) (times_of airport visit h))
    (push_places (IsAllowed airport visit) airport.tow least from (number - 1) visit.parts (places_of airport visit h))

cut_kept : (airport : AirportParts) (place at : ℕ) (visit : Visit) (part : Part) → IsAirport airport → IsWellFormed airport visit
    → slice_get visit.parts place ≡ Some part → length visit.parts < most_parts → part.from + least_of airport visit.kind ≤ at
    → at + airport.tow + least_of airport visit.kind ≤ part.to
    → IsWellFormed airport (with_parts visit (take place visit.parts ++ cut_first airport.tow at (drop place visit.parts)))
cut_kept airport place at visit part airports h found room low high =
    let parts : List Part = take place visit.parts ++ cut_first airport.tow at (drop place visit.parts) in
    let count : length parts ≡ length visit.parts + 1 = cut_length airport.tow at place visit.parts part found in
    with_parts_kept airport visit parts h (omega arith) (omega arith)
    (cut_follows (pace_of airport visit.kind) 0 place at visit.parts part (least_of_some airport visit.kind airports h.kind) found low high (times_of airport visit h))
    (cut_places (IsAllowed airport visit) airport.tow at place visit.parts (record { stand = tt; fact = λ off. refl; cancelled = λ over. refl }) (places_of airport visit h))

-- the part of a number has the place before
part_at-get : (parts : List Part) (number : ℕ) (part : Part) → part_at parts number ≡ Some part → slice_get parts (number - 1) ≡ Some part
part_at-get parts zero part found = absurd (cc)
part_at-get parts (suc place) part found =
    let before : suc place - 1 ≡ place = omega arith in
    rw (before, ← part_at-suc parts place) found

pub made_where : {B : Type 0} (passed : Bool) (made new : B) (Holds : B → Type 0) → (if passed then Some made else None) ≡ Some new
    → (passed ≡ true → Holds made) → Holds new
made_where true made new Holds is holds = let same : made ≡ new = cc in subst Holds same (holds refl)
made_where false made new Holds is holds = absurd (cc)

-- what holds of what is made if a part is found and passes a test, holds of the result
made_of : {B : Type 0} (found : Option Part) (test : Part → Bool) (made new : B) (Holds : B → Type 0)
    → option_and_then (λ part. if test part then Some made else None) found ≡ Some new
    → ((part : Part) → found ≡ Some part → test part ≡ true → Holds made) → Holds new
made_of None test made new Holds is holds = absurd (cc)
made_of (Some part) test made new Holds is holds = made_where (test part) made new Holds is (λ passed. holds part refl passed)

-- a visit of the airport stays well formed when a part is cut
pub cut_keeps : (airport : AirportParts) (number at : ℕ) (visit new : Visit) → IsAirport airport → IsWellFormed airport visit
    → cut_of airport number at visit ≡ Some new → IsWellFormed airport new
cut_keeps airport number at visit new airports h is =
    let least : ℕ = least_of airport visit.kind in
    made_of (part_at visit.parts number) (λ part. has_few visit.parts && is_long_enough airport.tow least at part) _ new (IsWellFormed airport) is
    (λ part found passed.
    let room : length visit.parts < most_parts = grind (arith, nat_tests) in
    let low : part.from + least ≤ at = grind (arith, nat_tests) in
    let high : at + airport.tow + least ≤ part.to = grind (arith, nat_tests) in
    cut_kept airport (number - 1) at visit part airports h (part_at-get visit.parts number part found) room low high)

-- joined parts follow the others as the two did
join_kept : (airport : AirportParts) (place : ℕ) (visit : Visit) → IsWellFormed airport visit
    → IsWellFormed airport (with_parts visit (take place visit.parts ++ join_first (drop place visit.parts)))
join_kept airport place visit h =
    let count = join_length place visit.parts h.some in
    with_parts_kept airport visit (take place visit.parts ++ join_first (drop place visit.parts)) h count.0 (omega (arith, count.1, h.few))
    (join_follows (pace_of airport visit.kind) 0 place visit.parts (times_of airport visit h))
    (join_places (IsAllowed airport visit) place visit.parts (places_of airport visit h))

-- what is made of what is found, if anything is
made_some : {A B : Type 0} (found : Option A) (made new : B) → option_map (λ _. made) found ≡ Some new → made ≡ new
made_some None made new is = absurd (cc)
made_some (Some x) made new is = cc

-- a well-formed visit stays so when two parts are joined
pub join_keeps : (airport : AirportParts) (number : ℕ) (visit new : Visit) → IsWellFormed airport visit → join_of number visit ≡ Some new → IsWellFormed airport new
join_keeps airport number visit new h is =
    subst (IsWellFormed airport) (made_some (part_at visit.parts (number + 1)) _ new is) (join_kept airport (number - 1) visit h)

-- a visit that is added with data valid at the airport is well formed
pub added_keeps : (airport : AirportParts) (number version : ℕ) (new : NewVisit) → IsAirport airport → IsNewVisitOf airport new
    → IsWellFormed airport (added_visit number version new)
added_keeps airport number version new airports h =
    let some : 1 ≤ least_of airport new.kind = least_of_some airport new.kind airports h.kind in
    let off : new.off ≤ plan_end airport = grind (arith, nat_tests, h.in_time) in
    let long : new.on + least_of airport new.kind ≤ new.off = grind (arith, nat_tests, h.in_time) in
    well_formed_by airport (added_visit number version new) h.kind h.new_visit.class (omega arith) (omega arith)
    (omega arith, omega arith, record { late = omega arith; short = λ short. absurd (omega arith) }, tt)
    (record { stand = tt; fact = λ off. refl; cancelled = λ over. refl }, tt)
