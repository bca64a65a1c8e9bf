use Rattle.std.proofs.Common.{subst, sym}
use Rattle.plan_core.specs.FlightPlaces.{AreFlightPlaces}
use Rattle.plan_core.proofs.LivePlaces.{places_push}
use Rattle.plan_core.proofs.flights.FlightPlaces.push.Goals as goal

pub invariant_of-self : goal.invariant_of-self
invariant_of-self c =
    subst (AreFlightPlaces c.self.inside.live c.self.inside.indexed) (sym c.push_reserved.ensures.items)
    (places_push c.self.inside.live c.self.inside.indexed c.self.inside.keys.items c.args.key c.self.invariant)
