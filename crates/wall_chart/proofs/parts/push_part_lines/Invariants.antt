use Rattle.std.proofs.Common.{◌≡◌, ◌++◌, take}
use Rattle.std.specs.List.{flat_map}
use Rattle.std.specs.Prelude.{codes}
use Rattle.wall_chart.specs.Parts.{part_line}
use Rattle.wall_chart.proofs.parts.push_part_lines.Given as goal

abbrev pub invariant-loop-row : goal.invariant-loop-row
invariant-loop-row l = l.text.items ≡ (l.fn.text.items ++ codes "PARTS\n") ++ flat_map (part_line l.airport l.plan.plan.visits) (take l.row-index l.row-items)
