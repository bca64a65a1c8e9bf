use Rattle.std.proofs.Common.{◌≡◌, take}
use Rattle.plan_core.specs.Indexing.{numbers_of}
use Rattle.plan_core.proofs.indexed.numbers_of.Given as goal

abbrev pub invariant-loop-visit : goal.invariant-loop-visit
invariant-loop-visit l = l.numbers.items ≡ numbers_of (take l.visit-index l.visits)
