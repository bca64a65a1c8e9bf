use Rattle.std.proofs.Common.{◌≤◌, ◌<◌, ◌+◌, arith}
use Rattle.visit_effects.specs.ClockTimes.{is_of_month}
use Rattle.visit_effects.proofs.Days.{latest_holds}
use Rattle.visit_effects.proofs.clock_times.day_of_month.Goals as goal

pub returns-clause-some : goal.returns-clause-some
returns-clause-some c =
    rw c.loop-passed.invariant
    (latest_holds (λ day. c.args.first ≤ day) (is_of_month c.args.airport.now c.args.number) c.args.first c.loop-passed.passed (λ day low high. low))

pub returns-clause-few : goal.returns-clause-few
returns-clause-few c =
    rw c.loop-passed.invariant
    (latest_holds (λ day. day < c.args.first + c.args.count) (is_of_month c.args.airport.now c.args.number) c.args.first c.loop-passed.passed
    (λ day low high. omega (arith, high, c.loop-passed.auto.passed-end)))
