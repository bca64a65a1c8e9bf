use Rattle.std.proofs.Common.{◌≡◌, ◌++◌, map, take}
use Rattle.std.specs.Prelude.{filter}
use Rattle.plan_lists.specs.Rows.{rows_from}
use Rattle.plan_lists.specs.Unplaced.{is_unplaced_row, with_rank}
use Rattle.plan_lists.proofs.waiting.push_waiting.Given as goal

abbrev pub invariant-loop-index : goal.invariant-loop-index
invariant-loop-index l = l.parts.items ≡ l.fn.parts.items ++ map (with_rank l.visit) (filter is_unplaced_row (rows_from l.visit 1 (take l.index l.own)))
