use Rattle.std.proofs.Common.{◌≡◌, take}
use Rattle.bump_core.specs.Lists.{touched_visits}
use Rattle.bump_core.proofs.after.touched_visits.Given as goal

abbrev pub invariant-loop-blocking : goal.invariant-loop-blocking
invariant-loop-blocking l = l.some.items ≡ touched_visits (take l.blocking-index l.blockings) l.fn.changed l.plan.plan.visits
