use Rattle.std.proofs.Common.{◌≡◌, map}
use Rattle.std.specs.List.{range_with_len}
use Rattle.generated_day.specs.DayAirport.{day_stand}
use Rattle.generated_day.proofs.airport.day_stands.Given as goal

abbrev pub invariant-loop-place : goal.invariant-loop-place
invariant-loop-place l = l.stands ≡ map day_stand (range_with_len 1 l.place)
