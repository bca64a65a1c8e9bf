use Rattle.std.proofs.Common.{◌<◌, ◌≤◌, ◌+◌, take}
use Rattle.std.specs.Prelude.{sum_by}
use Rattle.std.specs.List.{flat_map}
use Rattle.stand_index.specs.Slots.{IsIndex, at_stand}
use Rattle.stand_index.specs.Steps.{most_steps}
use Rattle.clash_check.specs.FirstWith.{IsFirstWith}
use Rattle.clash_check.proofs.Looked.{others_at}
use Rattle.clash_check.proofs.near.first_near.Given as goal

abbrev pub invariant-loop-place : goal.invariant-loop-place
invariant-loop-place g l = record {
  first : IsFirstWith l.airport l.slot (flat_map (others_at l.index l.without) (take l.place l.neighbours)) l.first;
  steps : l.steps ≤ l.fn.steps + sum_by (λ s. most_steps (at_stand l.index s) l.slot.from l.slot.end) (take l.place l.neighbours);
  index : 0 < l.place → IsIndex l.index;
}
