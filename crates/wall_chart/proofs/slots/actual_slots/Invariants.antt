use Rattle.std.proofs.Common.{◌≡◌, take}
use Rattle.visit_book.specs.Slots.{slots_of}
use Rattle.wall_chart.proofs.slots.actual_slots.Given as goal

abbrev pub invariant-loop-visit : goal.invariant-loop-visit
invariant-loop-visit l = l.slots.items ≡ slots_of l.airport (take l.visit-index l.visits)
