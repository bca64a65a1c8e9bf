use Rattle.std.proofs.Common.{◌≡◌, ◌++◌, take}
use Rattle.visit_book.specs.Slots.{slots_from}
use Rattle.wall_chart.proofs.slots.push_slots_of_visit.Given as goal

abbrev pub invariant-loop-index : goal.invariant-loop-index
invariant-loop-index l = l.slots.items ≡ l.fn.slots.items ++ slots_from l.airport l.visit 1 (take l.index l.parts)
