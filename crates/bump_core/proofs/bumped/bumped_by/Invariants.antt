use Rattle.std.proofs.Common.{◌≡◌, take}
use Rattle.bump_core.specs.Bumped.{bumped_by}
use Rattle.bump_core.proofs.bumped.bumped_by.Given as goal

abbrev pub invariant-loop-visit : goal.invariant-loop-visit
invariant-loop-visit l = l.parts ≡ bumped_by l.entry (take l.visit-index l.visits)
