use Rattle.std.proofs.Common.{◌≡◌, ◌++◌, drop, map, take}
use Rattle.visit_book.specs.Movements.{made_actual}
use Rattle.visit_book.proofs.movements.with_actual.Given as goal

abbrev pub invariant-loop-index : goal.invariant-loop-index
invariant-loop-index l = l.made ≡ map made_actual (take l.index l.parts) ++ drop l.index l.parts
