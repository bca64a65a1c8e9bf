use Rattle.std.proofs.Common.{◌≡◌, false, is_gt, subst, sym}
use Rattle.std.specs.BTreeSet.{IsKeyRangeOf}
use Rattle.std.specs.declared.ops.Bound.TheVariants.{Excluded, Included}
use Rattle.plan_core.specs.declared.flights.FlightPlace.{FlightPlace}
use Rattle.plan_core.specs.FlightPlaces.{compare_places, flight_place}
use Rattle.plan_core.proofs.FirstPlaces.{first_is, none_is, starts}
use Rattle.plan_core.proofs.flights.first_place.Goals as goal

pub range-requires : goal.range-requires
range-requires c =
    subst (λ (start : FlightPlace). is_gt (compare_places start c.place_of-2.result) ≡ false) (sym c.place_of.ensures.is)
    (subst (λ (end : FlightPlace). is_gt (compare_places (flight_place c.args.key.now 0) end) ≡ false) (sym c.place_of-2.ensures.is) (starts c.args.key.now c.args.end))

pub returns-in-Some-clause-first : goal.returns-in-Some-clause-first
returns-in-Some-clause-first c =
    let ranged : IsKeyRangeOf compare_places (Included (flight_place c.args.key.now 0)) (Excluded (flight_place c.args.key.now c.args.end)) c.args.live.now c.range.result =
    subst (λ (start : FlightPlace). IsKeyRangeOf compare_places (Included start) (Excluded (flight_place c.args.key.now c.args.end)) c.args.live.now c.range.result)
    c.place_of.ensures.is
    (subst (λ (end : FlightPlace). IsKeyRangeOf compare_places (Included c.place_of.result) (Excluded end) c.args.live.now c.range.result) c.place_of-2.ensures.is
    (c.range.ensures.in_range tt)) in
    first_is c.args.live.now c.args.key.now c.args.end c.range.result c.next.new.self c.in-Some.first.now ranged c.in-Some.ensures.steps

pub returns-in-None-clause-none : goal.returns-in-None-clause-none
returns-in-None-clause-none c =
    let ranged : IsKeyRangeOf compare_places (Included (flight_place c.args.key.now 0)) (Excluded (flight_place c.args.key.now c.args.end)) c.args.live.now c.range.result =
    subst (λ (start : FlightPlace). IsKeyRangeOf compare_places (Included start) (Excluded (flight_place c.args.key.now c.args.end)) c.args.live.now c.range.result)
    c.place_of.ensures.is
    (subst (λ (end : FlightPlace). IsKeyRangeOf compare_places (Included c.place_of.result) (Excluded end) c.args.live.now c.range.result) c.place_of-2.ensures.is
    (c.range.ensures.in_range tt)) in
    none_is c.args.live.now c.args.key.now c.args.end c.range.result ranged c.in-None.ensures.steps.0
