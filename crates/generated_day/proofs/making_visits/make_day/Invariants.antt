use Rattle.generated_day.specs.Days.{IsDayOf}
use Rattle.generated_day.specs.Makings.{day_so_far}
use Rattle.generated_day.proofs.making_visits.make_day.Given as goal

abbrev pub invariant-loop-made : goal.invariant-loop-made
invariant-loop-made l = IsDayOf l.made (day_so_far l.making)
