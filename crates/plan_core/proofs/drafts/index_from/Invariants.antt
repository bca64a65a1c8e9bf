use Rattle.plan_core.specs.Drafts.{AreIndexed}
use Rattle.plan_core.proofs.drafts.index_from.Given as goal

-- the versions of the drafts before this place are in the index
abbrev pub invariant-loop-place : goal.invariant-loop-place
invariant-loop-place l = AreIndexed l.versions l.place l.drafts
