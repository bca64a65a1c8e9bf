use Rattle.std.proofs.Common.{◌≡◌, ◌++◌, map, take}
use Rattle.std.specs.List.{flat_map}
use Rattle.wall_chart.specs.KeptAlarms.{alarms_in, clash_of}
use Rattle.wall_chart.proofs.alarms.push_in_order.Given as goal

abbrev pub invariant-loop-clash : goal.invariant-loop-clash
invariant-loop-clash l = map clash_of l.found.items ≡ map clash_of l.fn.found.items ++ flat_map alarms_in (take l.clash-index l.clashes)
