use Rattle.std.proofs.Common.{rules, subst}
use Rattle.stand_index.specs.Slots.{AreSlotsAt}
use Rattle.stand_index.proofs.Stands.{at_read, written_index, stand_with_room}
use Rattle.stand_index.proofs.index.StandIndex.reserve.Goals as goal

pub invariant_of-self : goal.invariant_of-self
invariant_of-self c =
    let inside = c.self.inside.stands.items in
    let stand = c.args.stand in
    let at = at_read inside stand c.index_mut.result.now (search rules) c.index_mut.ensures.value in
    let old : AreSlotsAt stand c.index_mut.result.now = subst (AreSlotsAt stand) at (c.self.invariant stand) in
    written_index inside stand c.reserve.new.self (search rules) c.self.invariant (stand_with_room stand c.index_mut.result.now c.reserve.new.self old c.reserve.ensures.slots)
