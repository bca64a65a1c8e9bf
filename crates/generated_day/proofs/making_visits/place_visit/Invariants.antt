use Rattle.std.proofs.Common.{◌-◌}
use Rattle.generated_day.specs.Days.{Day, IsPlaced, IsTried}
use Rattle.generated_day.specs.Makings.{day_so_far}
use Rattle.generated_day.proofs.making_visits.place_visit.Given as goal

abbrev pub invariant-loop-t : goal.invariant-loop-t
invariant-loop-t l = (after : Day) → IsTried (8 - l.t) l.number l.first l.t (day_so_far l.making) after → IsPlaced l.number (day_so_far l.fn.making) after
