use Rattle.std.proofs.Common.{◌≤◌, ◌+◌, take}
use Rattle.clash_check.specs.FirstWith.{IsFirstWith}
use Rattle.clash_check.proofs.near.first_among.Given as goal

abbrev pub invariant-loop-other : goal.invariant-loop-other
invariant-loop-other g l = record {
  first : IsFirstWith l.airport l.slot (take l.other-index l.slots) l.first;
  steps : l.steps ≤ l.fn.steps + l.other-index;
}
