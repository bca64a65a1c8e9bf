use Rattle.std.proofs.Common.{◌≡◌, ◌≤◌, length, take}
use Rattle.std.specs.Prelude.{filter}
use Rattle.visit_book.specs.Movements.{starts_before}
use Rattle.visit_book.proofs.movements.started_before.Given as goal

abbrev pub invariant-loop-index : goal.invariant-loop-index
invariant-loop-index l = record {
  started : l.started ≡ filter (starts_before l.at) (take l.index l.parts);
  few : length l.started ≤ l.index;
}
