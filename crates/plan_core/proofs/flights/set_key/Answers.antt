use Rattle.std.proofs.Common.{◌≡◌, ◌∙◌, None, Option, Some, ap, cond, false, length, not, refl, subst, sym}
use Rattle.std.specs.Prelude.{is_some, slice_set}
use Rattle.std.specs.BTreeMap.{is_at}
use Rattle.std.specs.BTreeSet.{contains}
use Rattle.std.proofs.lemmas.Option.{slice_get_read}
use Rattle.visit_book.specs.declared.visits.Key.{Key}
use Rattle.plan_core.specs.declared.flights.FlightPlace.{FlightPlace}
use Rattle.plan_core.specs.FlightPlaces.{AreFlightPlaces, compare_places}
use Rattle.plan_core.proofs.LivePlaces.{places_clear, places_same}
use Rattle.plan_core.proofs.flights.set_key.Goals as goal

no_key : (key : Option Key) → is_some key ≡ false → key ≡ None
no_key None none = refl
no_key (Some key) none = absurd (cc)

pub returns-then-is_none-clause-places : goal.returns-then-is_none-clause-places
returns-then-is_none-clause-places c =
    let at = slice_get_read c.args.keys.now (length c.args.keys.now) c.args.place c.index-keys-place.result refl c.requires.place c.index-keys-place.is in
    let none : c.args.key ≡ None = no_key c.args.key (c.is_none.ensures ∙ ap not c.if-is_none.true) in
    subst (λ (key : Option Key). AreFlightPlaces c.remove.new.self c.args.indexed (slice_set c.args.keys.now c.args.place key)) (sym none)
    (places_clear c.args.live.now c.args.indexed c.args.place c.args.keys.now c.requires.places c.requires.place c.remove.new.self c.in-Some.old
    (at ∙ ap (λ key. Some key) c.in-Some.is)
    (λ q. c.remove.ensures.updates.0 q
    ∙ ap (λ (place : FlightPlace). cond (is_at (compare_places place) q) false (contains compare_places c.args.live.now q)) c.place_of.ensures.is))

pub returns-else-is_none-clause-places : goal.returns-else-is_none-clause-places
returns-else-is_none-clause-places c =
    let at = slice_get_read c.args.keys.now (length c.args.keys.now) c.args.place c.index-keys-place.result refl c.requires.place c.index-keys-place.is in
    places_same c.args.live.now c.args.indexed c.args.place c.args.keys.now c.requires.places c.requires.place c.in-Some.old c.args.key c.requires.same
    (c.is_none.ensures ∙ ap not c.if-is_none.false) (at ∙ ap (λ key. Some key) c.in-Some.is)
