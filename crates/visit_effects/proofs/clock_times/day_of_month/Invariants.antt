use Rattle.std.proofs.Common.{◌≡◌}
use Rattle.visit_effects.specs.ClockTimes.{is_of_month, latest_day}
use Rattle.visit_effects.proofs.clock_times.day_of_month.Given as goal

abbrev pub invariant-loop-passed : goal.invariant-loop-passed
invariant-loop-passed l = l.latest ≡ latest_day (is_of_month l.airport l.number) l.first l.passed
