use Rattle.std.proofs.Common.{◌≡◌, ◌++◌, drop, map, take}
use Rattle.plan_core.specs.Rebase.{edited_last}
use Rattle.plan_core.proofs.edits.edited_last.Given as goal

abbrev pub invariant-loop-visit : goal.invariant-loop-visit
invariant-loop-visit l = l.visit-items ≡ map (edited_last l.version) (take l.visit-index l.fn.visits) ++ drop l.visit-index l.fn.visits
