use Rattle.std.proofs.Common.{◌≡◌}
use Rattle.visit_effects.specs.ClockTimes.{is_nearest, latest_day, minute_on}
use Rattle.visit_effects.proofs.clock_times.nearest_day.Given as goal

abbrev pub invariant-loop-passed : goal.invariant-loop-passed
invariant-loop-passed l = l.nearest ≡ latest_day (λ day. is_nearest l.scheduled (minute_on l.minute day)) 1 l.passed
