use Rattle.std.proofs.Common.{◌≡◌}
use Rattle.std.specs.Prelude.{filter}
use Rattle.apron_rules.specs.Neighbours.{first_stands, is_neighbour}
use Rattle.apron_rules.proofs.neighbours.neighbours_of.Given as goal

abbrev pub invariant-loop-other : goal.invariant-loop-other
invariant-loop-other l = l.neighbours ≡ filter (is_neighbour l.parts l.stand) (first_stands l.other)
