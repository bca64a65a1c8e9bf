use Rattle.std.proofs.Common.{◌≡◌, ◌++◌, drop, take}
use Rattle.bump_core.specs.Lists.{parts_by}
use Rattle.bump_core.proofs.after.visit_by.Given as goal

abbrev pub invariant-loop-index : goal.invariant-loop-index
invariant-loop-index l = l.parts ≡ parts_by l.entry l.blockings l.visit.number 1 (take l.index l.own) ++ drop l.index l.own
