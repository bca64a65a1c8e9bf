use Rattle.std.proofs.Common.{◌≡◌, ◌≤◌, ap, arith}
use Rattle.apron_rules.specs.declared.parts.AirportParts.{AirportParts}
use Rattle.visit_effects.specs.ClockTimes.{is_nearest, minute_on}
use Rattle.visit_effects.proofs.Days.{latest_holds}
use Rattle.visit_effects.proofs.clock_times.nearest_day.Goals as goal

pub returns-clause-some : goal.returns-clause-some
returns-clause-some c =
    rw c.loop-passed.invariant
    (latest_holds (λ day. 1 ≤ day) (λ day. is_nearest c.args.scheduled (minute_on c.args.minute day)) 1 c.loop-passed.passed (λ day low high. low))

pub returns-clause-few : goal.returns-clause-few
returns-clause-few c =
    let days : c.parts.result.now.days ≡ c.args.airport.now.days = ap (λ (a : AirportParts). a.days) c.parts.ensures.value in
    rw c.loop-passed.invariant
    (latest_holds (λ day. day ≤ c.args.airport.now.days) (λ day. is_nearest c.args.scheduled (minute_on c.args.minute day)) 1 c.loop-passed.passed
    (λ day low high. omega (arith, high, days, c.loop-passed.auto.passed-end)))
