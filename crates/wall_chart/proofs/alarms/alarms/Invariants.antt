use Rattle.std.proofs.Common.{◌≡◌, map, take}
use Rattle.std.specs.List.{flat_map}
use Rattle.visit_book.specs.Slots.{slots_of}
use Rattle.wall_chart.specs.Alarms.{alarms_with}
use Rattle.wall_chart.specs.KeptAlarms.{clash_of}
use Rattle.wall_chart.proofs.alarms.alarms.Given as goal

abbrev pub invariant-loop-slot : goal.invariant-loop-slot
invariant-loop-slot g l = map clash_of l.found.items ≡ flat_map (alarms_with l.airport l.day (slots_of l.airport l.plan.plan.visits)) (take l.slot-index l.slot-items)
