use Rattle.std.proofs.Common.{rules, subst, sym, List}
use Rattle.stand_index.specs.Slots.{StandSlots, AreSlotsAt, KeepsOrder, at_stand}
use Rattle.stand_index.proofs.Stands.{at_read, written_index, stand_with_slot}
use Rattle.stand_index.proofs.index.StandIndex.insert.Goals as goal

pub invariant_of-self : goal.invariant_of-self
invariant_of-self c =
    let inside = c.self.inside.stands.items in
    let stand = c.args.slot.stand in
    let at = at_read inside stand c.index_mut.result.now (search rules) c.index_mut.ensures.value in
    let old : AreSlotsAt stand c.index_mut.result.now = subst (AreSlotsAt stand) at (c.self.invariant stand) in
    let order : KeepsOrder c.args.slot c.index_mut.result.now =
    subst (KeepsOrder c.args.slot) at (subst (λ (index : List StandSlots). KeepsOrder c.args.slot (at_stand index stand)) (sym c.self.view_is) c.requires.order) in
    written_index inside stand c.insert.new.self (search rules) c.self.invariant (stand_with_slot c.args.slot c.index_mut.result.now c.insert.new.self old c.requires.minutes order c.insert.ensures.slots)
