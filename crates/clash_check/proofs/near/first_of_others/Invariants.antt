use Rattle.std.proofs.Common.{take}
use Rattle.std.specs.Prelude.{filter}
use Rattle.clash_check.specs.Clear.{is_of_other}
use Rattle.clash_check.specs.FirstWith.{IsFirstWith}
use Rattle.clash_check.proofs.near.first_of_others.Given as goal

abbrev pub invariant-loop-other : goal.invariant-loop-other
invariant-loop-other l = IsFirstWith l.airport l.slot (filter (is_of_other l.without) (take l.other-index l.slots)) l.first
