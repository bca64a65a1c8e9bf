use Rattle.generated_day.proofs.OfDay.{first_of_day, only_memory, station_of_day}
use Rattle.generated_day.proofs.airport.day_airport.Goals as goal

pub new-requires-clause-station : goal.new-requires-clause-station
new-requires-clause-station c = station_of_day c.in_ok-day_parts.field-0 c.in_ok-day_parts.ensures.is

pub new-requires-clause-first : goal.new-requires-clause-first
new-requires-clause-first c = first_of_day c.in_ok-day_parts.field-0 c.in_ok-day_parts.ensures.is

pub memory_of-requires : goal.memory_of-requires
memory_of-requires c = record { memory = only_memory c.in_ok-day_parts.field-0 c.in-Err.fault c.in_ok-day_parts.ensures.is c.in-Err.ensures.fault }
