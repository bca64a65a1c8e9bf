use Rattle.std.proofs.Common.{◌≡◌, take}
use Rattle.visit_book.specs.Slots.{slots_of}
use Rattle.plan_core.proofs.slots.slots_of.Given as goal

abbrev pub invariant-loop-visit : goal.invariant-loop-visit
invariant-loop-visit l = l.slots ≡ slots_of l.airport (take l.visit-index l.visits)
