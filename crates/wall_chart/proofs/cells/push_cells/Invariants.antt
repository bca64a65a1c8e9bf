use Rattle.std.proofs.Common.{◌≡◌, ◌++◌, map}
use Rattle.std.specs.List.{range_with_len}
use Rattle.wall_chart.specs.Cells.{cell, quarter_minutes}
use Rattle.wall_chart.proofs.cells.push_cells.Given as goal

abbrev pub invariant-loop-quarter : goal.invariant-loop-quarter
invariant-loop-quarter l = l.text.items ≡ l.fn.text.items ++ map (λ quarter. cell l.slots l.stand (quarter_minutes l.day quarter)) (range_with_len 0 l.quarter)
