use Rattle.std.proofs.Common.{◌<◌, ◌/◌, ℕ, List, slice_index, subst, sym}
use Rattle.apron_base.specs.declared.slot.Slot.{Slot}
use Rattle.stand_index.specs.Blocks.{IsLastEnd, block}
use Rattle.stand_index.specs.Slots.{IsByStart}
use Rattle.stand_index.proofs.Blocks.{in_blocks, kept_ends}
use Rattle.stand_index.proofs.Order.{insert_by_start_ordered}
use Rattle.stand_index.proofs.slot_list.SlotList.insert.Goals as goal

pub put_ends-requires-clause-ends : goal.put_ends-requires-clause-ends
put_ends-requires-clause-ends c =
    let place = c.insert_by_start-place.result in
    let P : List Slot → Type 0 = λ ys. (number : ℕ) → number < place / 64 → IsLastEnd (block ys number) (slice_index c.self.inside.ends.items number) in
    subst P (sym c.deref.ensures.value)
    (kept_ends c.self.inside.slots.items c.insert_by_start-place.new.slots.items c.self.inside.ends.items place c.self.invariant c.insert_by_start-place.ensures.front c.insert_by_start-place.ensures.place)

pub invariant_of-self : goal.invariant_of-self
invariant_of-self c =
    let order = subst IsByStart (sym c.insert_by_start-place.ensures.items) (insert_by_start_ordered c.args.slot c.self.inside.slots.items c.self.invariant.order) in
    in_blocks c.insert_by_start-place.new.slots.items c.deref.result.now c.put_ends.new.ends.items c.deref.ensures.value order
    c.put_ends.ensures.whole c.put_ends.ensures.last c.put_ends.ensures.ends
