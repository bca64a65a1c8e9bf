use Rattle.std.proofs.Common.{◌≡◌, count_by, take}
use Rattle.generated_day.specs.Days.{is_placed, is_unplaced, parts_of}
use Rattle.generated_day.proofs.making_visits.count_parts.Given as goal

abbrev pub invariant-loop-visit : goal.invariant-loop-visit
invariant-loop-visit l = record {
  placed : l.counts.0 ≡ count_by is_placed (parts_of (take l.visit-index l.visits));
  unplaced : l.counts.1 ≡ count_by is_unplaced (parts_of (take l.visit-index l.visits));
}
