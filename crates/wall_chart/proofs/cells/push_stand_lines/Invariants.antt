use Rattle.std.proofs.Common.{◌≡◌, ◌++◌}
use Rattle.std.specs.List.{flat_map}
use Rattle.apron_rules.specs.Neighbours.{first_stands}
use Rattle.visit_book.specs.Slots.{slots_of}
use Rattle.wall_chart.specs.Cells.{stand_line}
use Rattle.wall_chart.proofs.cells.push_stand_lines.Given as goal

abbrev pub invariant-loop-place : goal.invariant-loop-place
invariant-loop-place g l = l.text.items ≡ l.fn.text.items ++ flat_map (stand_line l.airport (slots_of l.airport l.plan.plan.visits) l.day) (first_stands l.place)
