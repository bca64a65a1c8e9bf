use Rattle.std.proofs.Common.{take}
use Rattle.stand_index.specs.Blocks.{IsLastEnd}
use Rattle.stand_index.proofs.slot_list.last_end.Given as goal

abbrev pub invariant-loop-slot : goal.invariant-loop-slot
invariant-loop-slot l = IsLastEnd (take l.slot-index l.slots) l.last
