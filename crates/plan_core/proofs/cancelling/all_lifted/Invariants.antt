use Rattle.std.proofs.Common.{◌≡◌, ◌++◌, drop, map, take}
use Rattle.plan_core.specs.Moving.{lifted_part}
use Rattle.plan_core.proofs.cancelling.all_lifted.Given as goal

abbrev pub invariant-loop-index : goal.invariant-loop-index
invariant-loop-index l = l.made ≡ map lifted_part (take l.index l.parts) ++ drop l.index l.parts
