use Rattle.std.proofs.Common.{◌≡◌, ◌++◌, take}
use Rattle.std.specs.List.{flat_map}
use Rattle.std.specs.Prelude.{codes}
use Rattle.wall_chart.specs.Unplaced.{unplaced_line}
use Rattle.wall_chart.proofs.unplaced.push_unplaced_lines.Given as goal

abbrev pub invariant-loop-row : goal.invariant-loop-row
invariant-loop-row l = l.text.items ≡ (l.fn.text.items ++ codes "UNPLACED\n") ++ flat_map (unplaced_line l.airport l.plan.plan.visits) (take l.row-index l.row-items)
