use Rattle.std.proofs.Common.{◌≤◌, ◌+◌, ◌++◌, take}
use Rattle.apron_rules.specs.Clash.{IsFirstClash}
use Rattle.clash_check.specs.Clear.{others_of}
use Rattle.clash_check.specs.Steps.{steps_of}
use Rattle.clash_check.proofs.first.first_clash_without.Given as goal

abbrev pub invariant-loop-place : goal.invariant-loop-place
invariant-loop-place g l = record {
  first : IsFirstClash l.airport (others_of l.index l.without ++ take l.place l.changed) l.first;
  steps : l.steps ≤ l.fn.steps + steps_of l.airport l.index (take l.place l.changed);
}
