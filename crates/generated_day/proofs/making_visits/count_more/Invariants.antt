use Rattle.std.proofs.Common.{◌≡◌, ◌+◌, count_by, take}
use Rattle.generated_day.specs.Days.{is_placed, is_unplaced}
use Rattle.generated_day.proofs.making_visits.count_more.Given as goal

abbrev pub invariant-loop-part : goal.invariant-loop-part
invariant-loop-part l = record {
  placed : l.placed ≡ l.fn.counts.0 + count_by is_placed (take l.part-index l.parts);
  unplaced : l.unplaced ≡ l.fn.counts.1 + count_by is_unplaced (take l.part-index l.parts);
}
