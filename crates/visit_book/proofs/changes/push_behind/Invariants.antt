use Rattle.std.proofs.Common.{◌≡◌, ◌≤◌, ◌+◌, ◌*◌, ◌^◌, ◌++◌, take, drop, length}
use Rattle.visit_book.specs.Changes.{pushed_behind}
use Rattle.visit_book.proofs.changes.push_behind.Given as goal

abbrev pub invariant-loop-index : goal.invariant-loop-index
invariant-loop-index l = record {
  pushed : take l.index l.parts ++ pushed_behind l.tow l.least l.earliest (drop l.index l.visit.parts)
      ≡ take l.fn.kept l.visit.parts ++ pushed_behind l.tow l.least l.fn.earliest (drop l.fn.kept l.visit.parts);
  count : length l.parts ≡ length l.visit.parts;
  early : l.earliest ≤ 2 ^ 16 + 2 ^ 10 * l.index;
}
