use Rattle.plan_core.specs.FlightPlaces.{AreFlightPlaces}
use Rattle.plan_core.proofs.flights.index_from.Given as goal

-- the places of the keys before this one are in the set
abbrev pub invariant-loop-place : goal.invariant-loop-place
invariant-loop-place l = AreFlightPlaces l.live l.place l.keys
