use Rattle.std.proofs.Common.{subst, sym}
use Rattle.std.specs.Prelude.{not}
use Rattle.std.proofs.lemmas.List.Kept.{IsNonDecreasingBy-filter}
use Rattle.stand_index.specs.Slots.{IsByStart, is_of_part}
use Rattle.stand_index.proofs.Blocks.{in_blocks}
use Rattle.stand_index.proofs.slot_list.SlotList.remove.Goals as goal

pub invariant_of-self : goal.invariant_of-self
invariant_of-self c =
    let order =
    subst IsByStart (sym c.remove_part.ensures.items)
    (IsNonDecreasingBy-filter (λ slot. slot.from) (λ slot. not (is_of_part c.args.part slot)) c.self.inside.slots.items c.self.invariant.order) in
    in_blocks c.remove_part.new.slots.items c.deref.result.now c.put_ends.new.ends.items c.deref.ensures.value order
    c.put_ends.ensures.whole c.put_ends.ensures.last c.put_ends.ensures.ends
