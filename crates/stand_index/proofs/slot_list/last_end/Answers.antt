use Rattle.std.proofs.Common.{◌+◌, ℕ, subst, sym, take}
use Rattle.stand_index.specs.Blocks.{IsLastEnd}
use Rattle.stand_index.proofs.Blocks.{last_end_more}
use Rattle.stand_index.proofs.slot_list.last_end.Goals as goal

pub loop-slot-preserved : goal.loop-slot-preserved
loop-slot-preserved c =
    let P : ℕ → Type 0 = λ last. IsLastEnd (take (c.loop-slot.slot-index + 1) c.args.slots.now) last in
    subst P (sym c.max-last.ensures) (last_end_more c.args.slots.now c.loop-slot.slot-index _ c.loop-slot.last c.loop-slot-test.true c.loop-slot.invariant)
