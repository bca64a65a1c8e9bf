use Rattle.plan_core.specs.Visits.{AreNamed}
use Rattle.plan_core.proofs.visits.name_from.Given as goal

-- the names of the visits before this place are in the map
abbrev pub invariant-loop-place : goal.invariant-loop-place
invariant-loop-place l = AreNamed l.places l.place l.visits
