use Rattle.std.proofs.Common.{◌≡◌, ◌≤◌, ◌<◌, ◌+◌, ◌-◌, take}
use Rattle.std.specs.Prelude.{sum_by}
use Rattle.std.specs.List.{flat_map}
use Rattle.stand_index.specs.Slots.{IsIndex, at_stand, hits_of}
use Rattle.stand_index.specs.Steps.{most_steps}
use Rattle.clash_check.specs.Meetings.{clashes_within}
use Rattle.clash_check.proofs.clashes.clashes_near.Given as goal

abbrev pub invariant-loop-place : goal.invariant-loop-place
invariant-loop-place g l = record {
  clashes : l.clashes.items ≡ clashes_within l.airport l.slot l.from (l.end - l.from) (flat_map (λ s. hits_of (at_stand l.index s) l.first l.last) (take l.place l.neighbours));
  steps : l.steps ≤ l.fn.steps + sum_by (λ s. most_steps (at_stand l.index s) l.first l.last) (take l.place l.neighbours);
  index : 0 < l.place → IsIndex l.index;
}
