use Rattle.std.proofs.Common.{◌≡◌, length}
use Rattle.std.specs.Prelude.{All}
use Rattle.stand_index.specs.Slots.{HasNoSlots}
use Rattle.stand_index.proofs.index.StandIndex.new.Given as goal

abbrev pub invariant-loop-stand : goal.invariant-loop-stand
invariant-loop-stand l = record {
  stands : length l.all.items ≡ l._stand;
  none : All HasNoSlots l.all.items;
}
