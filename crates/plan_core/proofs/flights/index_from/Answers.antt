use Rattle.std.proofs.Common.{◌+◌, ◌∙◌, Some, ap, cond, length, refl, subst, sym, true}
use Rattle.std.specs.BTreeMap.{is_at}
use Rattle.std.specs.BTreeSet.{BTreeSet, contains}
use Rattle.std.proofs.lemmas.Option.{slice_get_read}
use Rattle.plan_core.specs.declared.flights.FlightPlace.{FlightPlace}
use Rattle.plan_core.specs.FlightPlaces.{AreFlightPlaces, compare_places}
use Rattle.plan_core.proofs.LivePlaces.{places_more, places_none}
use Rattle.plan_core.proofs.Results.{not_err}
use Rattle.plan_core.proofs.flights.index_from.Goals as goal
use Rattle.plan_core.proofs.flights.index_from.Goals.{in-Some+else-is_err, in_default}

pub loop-place-preserved : goal.loop-place-preserved
loop-place-preserved c =
    let at = slice_get_read c.args.keys.now (length c.args.keys.now) c.loop-place.place c.index-keys-place.result refl c.loop-place-test.true c.index-keys-place.is in
    let P : BTreeSet FlightPlace → Type 0 = λ live. AreFlightPlaces live (c.loop-place.place + 1) c.args.keys.now in
    elim c.match-keys-place.branch [
      | in-Some+else-is_err w ↦
          subst P (sym w.live-is) (places_more c.loop-place.live w.insert.new.self c.loop-place.place c.args.keys.now w.in-Some.key c.loop-place.invariant
          c.loop-place-test.true (at ∙ ap (λ key. Some key) w.in-Some.is)
          (λ q. (not_err w.insert.result (sym w.is_err.ensures.value ∙ w.if-is_err.false) w.insert.ensures.updates).0 q
          ∙ ap (λ (place : FlightPlace). cond (is_at (compare_places place) q) true (contains compare_places c.loop-place.live q)) w.place_of.ensures.is))
      | in_default w ↦
          subst P (sym w.live-is) (places_none c.loop-place.live c.loop-place.place c.args.keys.now c.loop-place.invariant c.loop-place-test.true
          (at ∙ ap (λ key. Some key) w.in_default.is))
    ]
