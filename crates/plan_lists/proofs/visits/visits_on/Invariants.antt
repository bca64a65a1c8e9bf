use Rattle.std.proofs.Common.{◌≡◌, take}
use Rattle.std.specs.Prelude.{filter}
use Rattle.plan_lists.specs.OfDay.{is_visit_of}
use Rattle.plan_lists.proofs.visits.visits_on.Given as goal

abbrev pub invariant-loop-visit : goal.invariant-loop-visit
invariant-loop-visit l = l.seen ≡ filter (is_visit_of l.airport l.day) (take l.visit-index l.visits)
