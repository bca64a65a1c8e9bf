use Rattle.std.proofs.Common.{◌≡◌, take}
use Rattle.std.specs.List.{flat_map}
use Rattle.plan_lists.specs.Held.{held_of}
use Rattle.plan_lists.proofs.held.held_on.Given as goal

abbrev pub invariant-loop-visit : goal.invariant-loop-visit
invariant-loop-visit l = l.rows ≡ flat_map (held_of l.airport l.day) (take l.visit-index l.visits)
