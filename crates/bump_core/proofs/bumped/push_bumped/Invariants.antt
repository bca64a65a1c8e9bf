use Rattle.std.proofs.Common.{◌≡◌, ◌++◌, take}
use Rattle.bump_core.specs.Bumped.{bumped_from}
use Rattle.bump_core.proofs.bumped.push_bumped.Given as goal

abbrev pub invariant-loop-index : goal.invariant-loop-index
invariant-loop-index l = l.parts ≡ l.fn.parts ++ bumped_from l.entry l.visit 1 (take l.index l.own)
