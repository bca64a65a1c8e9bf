use Rattle.std.proofs.Common.{◌≡◌, ◌++◌, take}
use Rattle.visit_book.specs.Slots.{slots_from}
use Rattle.plan_core.proofs.slots.add_slots_of_visit.Given as goal

abbrev pub invariant-loop-index : goal.invariant-loop-index
invariant-loop-index l = l.slots ≡ l.fn.slots ++ slots_from l.airport l.visit 1 (take l.index l.parts)
