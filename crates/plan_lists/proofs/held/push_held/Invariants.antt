use Rattle.std.proofs.Common.{◌≡◌, ◌++◌, take}
use Rattle.std.specs.Prelude.{filter}
use Rattle.plan_lists.specs.Held.{holds_on}
use Rattle.plan_lists.specs.Rows.{rows_from}
use Rattle.plan_lists.proofs.held.push_held.Given as goal

abbrev pub invariant-loop-index : goal.invariant-loop-index
invariant-loop-index l = l.rows ≡ l.fn.rows ++ filter (holds_on l.airport l.day l.visit) (rows_from l.visit 1 (take l.index l.parts))
