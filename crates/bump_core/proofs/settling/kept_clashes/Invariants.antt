use Rattle.std.proofs.Common.{◌≡◌, ◌≤◌, ◌+◌, take}
use Rattle.std.specs.Prelude.{sum_by}
use Rattle.std.specs.List.{flat_map}
use Rattle.clash_check.specs.Steps.{steps_near}
use Rattle.bump_core.specs.Lists.{kept_clashes_of_part}
use Rattle.bump_core.specs.Ranks.{all_parts_on}
use Rattle.bump_core.proofs.settling.kept_clashes.Given as goal

abbrev pub invariant-loop-own : goal.invariant-loop-own
invariant-loop-own g l = record {
  found : l.mets ≡ flat_map (kept_clashes_of_part l.airport (all_parts_on l.airport l.plan.plan.visits)) (take l.own-index l.own-items);
  steps : l.steps ≤ l.fn.steps + sum_by (λ own. steps_near l.airport l.plan.index own.slot) (take l.own-index l.own-items);
}
