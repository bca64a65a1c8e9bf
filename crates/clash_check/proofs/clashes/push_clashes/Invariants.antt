use Rattle.std.proofs.Common.{◌≡◌, ◌++◌, ◌-◌, take}
use Rattle.clash_check.specs.Meetings.{clashes_within}
use Rattle.clash_check.proofs.clashes.push_clashes.Given as goal

abbrev pub invariant-loop-other : goal.invariant-loop-other
invariant-loop-other l = l.clashes.items ≡ l.fn.clashes.items ++ clashes_within l.airport l.slot l.from (l.end - l.from) (take l.other-index l.others)
