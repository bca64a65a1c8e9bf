use Rattle.std.proofs.Common.{◌≡◌, ◌<◌, ◌+◌, ◌*◌, length, drop, vec_capacity}
use Rattle.stand_index.specs.Blocks.{AreLastEnds}
use Rattle.stand_index.proofs.slot_list.put_ends.Given as goal

abbrev pub invariant-loop-rest : goal.invariant-loop-rest
invariant-loop-rest l = record {
  rest : l.rest ≡ drop (length l.ends.items * 64) l.slots;
  last : length l.ends.items * 64 < length l.slots + 64;
  ends : AreLastEnds l.slots l.ends.items;
  capacity : vec_capacity l.ends ≡ vec_capacity l.fn.ends;
}

abbrev pub decreases-loop-rest : goal.decreases-loop-rest
decreases-loop-rest l = length l.rest
