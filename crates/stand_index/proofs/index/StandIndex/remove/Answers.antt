use Rattle.std.proofs.Common.{rules, subst}
use Rattle.stand_index.specs.Slots.{AreSlotsAt}
use Rattle.stand_index.proofs.Stands.{at_read, written_index, stand_without_part}
use Rattle.stand_index.proofs.index.StandIndex.remove.Goals as goal

pub invariant_of-self : goal.invariant_of-self
invariant_of-self c =
    let inside = c.self.inside.stands.items in
    let stand = c.args.stand in
    let at = at_read inside stand c.index_mut.result.now (search rules) c.index_mut.ensures.value in
    let old : AreSlotsAt stand c.index_mut.result.now = subst (AreSlotsAt stand) at (c.self.invariant stand) in
    written_index inside stand c.remove.new.self (search rules) c.self.invariant (stand_without_part stand c.args.part c.index_mut.result.now c.remove.new.self old c.remove.ensures.slots)
