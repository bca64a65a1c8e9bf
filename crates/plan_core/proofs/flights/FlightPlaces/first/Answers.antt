use Rattle.std.proofs.Common.{◌≡◌, ◌+◌, ◌∙◌, ℕ, List, Option, ap, drop, sym}
use Rattle.std.specs.Prelude.{option_map, position}
use Rattle.visit_book.specs.declared.visits.Key.{Key}
use Rattle.visit_book.specs.Flights.{is_by}
use Rattle.plan_core.specs.FlightPlaces.{KeysHeld}
use Rattle.plan_core.proofs.FirstPlaces.{place_found, place_later}
use Rattle.plan_core.proofs.flights.FlightPlaces.first.Goals as goal

pub returns-in-Some : goal.returns-in-Some
returns-in-Some c =
    let keys : c.self.inside.keys.items ≡ c.args.self.now.keys = ap (λ (held : KeysHeld). held.keys) c.self.view_is in
    record {
      place = sym (ap (position (is_by c.args.key.now)) (sym keys)
          ∙ place_found c.self.inside.live c.self.inside.indexed c.self.inside.keys.items c.args.key.now c.in-Some.place c.self.invariant c.in-Some.ensures.first);
    }

pub returns-in-None : goal.returns-in-None
returns-in-None c =
    let keys : c.self.inside.keys.items ≡ c.args.self.now.keys = ap (λ (held : KeysHeld). held.keys) c.self.view_is in
    let later = place_later c.self.inside.live c.self.inside.indexed c.self.inside.keys.items c.args.key.now c.self.invariant c.in-None.ensures.none in
    record {
      place = c.first_from.ensures.place
          ∙ (ap (λ (ks : List (Option Key)). option_map (λ (place : ℕ). c.self.inside.indexed + place) (position (is_by c.args.key.now) (drop c.self.inside.indexed ks))) c.as_slice.ensures.value
          ∙ (sym later ∙ ap (position (is_by c.args.key.now)) keys));
    }
