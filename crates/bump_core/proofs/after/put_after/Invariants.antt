use Rattle.std.proofs.Common.{◌≡◌, ◌++◌, drop, map, take}
use Rattle.bump_core.specs.Lists.{after_by}
use Rattle.bump_core.proofs.after.put_after.Given as goal

abbrev pub invariant-loop-visit : goal.invariant-loop-visit
invariant-loop-visit l = l.visit-items ≡ map (after_by l.entry l.new l.blockings) (take l.visit-index l.fn.visits) ++ drop l.visit-index l.fn.visits
