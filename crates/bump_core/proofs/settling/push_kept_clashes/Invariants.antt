use Rattle.std.proofs.Common.{◌≡◌, ◌++◌, take}
use Rattle.std.specs.Prelude.{filter_map}
use Rattle.bump_core.specs.Lists.{kept_clash_at}
use Rattle.bump_core.proofs.settling.push_kept_clashes.Given as goal

abbrev pub invariant-loop-clash : goal.invariant-loop-clash
invariant-loop-clash l = l.mets ≡ l.fn.mets ++ filter_map (kept_clash_at l.airport l.plan.plan.visits l.own) (take l.clash-index l.clashes)
