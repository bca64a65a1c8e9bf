use Rattle.std.proofs.Common.{◌≡◌, take}
use Rattle.std.specs.List.{flat_map}
use Rattle.plan_lists.specs.Unplaced.{waiting_of}
use Rattle.plan_lists.proofs.waiting.all_waiting.Given as goal

abbrev pub invariant-loop-visit : goal.invariant-loop-visit
invariant-loop-visit l = l.parts.items ≡ flat_map waiting_of (take l.visit-index l.visits)
