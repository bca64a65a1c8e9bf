use Rattle.std.proofs.Common.{◌≡◌, ◌≤◌, ◌<◌, ◌+◌, ◌*◌, length}
use Rattle.std.specs.Prelude.{All}
use Rattle.stand_index.specs.Slots.{at_stand}
use Rattle.bench.proofs.airports.looks.full_stand.Given as goal

abbrev pub invariant-loop-before : goal.invariant-loop-before
invariant-loop-before l = record {
  stands : length l.index ≡ 1;
  room : 98 ≤ (at_stand l.index (record { 0 = 0 })).spare + l.before;
  earlier : All (λ slot. (slot.from < 200 * l.before) × (slot.end < 200 * l.before)) (at_stand l.index (record { 0 = 0 })).planned;
}
