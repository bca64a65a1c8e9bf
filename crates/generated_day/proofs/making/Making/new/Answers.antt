use Rattle.generated_day.proofs.Opened.{only_memory}
use Rattle.generated_day.proofs.making.Making.new.Goals as goal

pub memory_of-requires : goal.memory_of-requires
memory_of-requires c = record { memory = only_memory c.args.airport.now c.new-2.result.items c.in-Err.fault c.new-2.ensures.items c.in-Err.ensures.refused }
