use Rattle.std.proofs.Common.{◌++◌, subst, List}
use Rattle.std.specs.List.Sorted.{IsPermutation}
use Rattle.std.proofs.lemmas.List.{take_all}
use Rattle.apron_base.specs.declared.slot.Slot.{Slot}
use Rattle.clash_check.specs.Indexed.{all_slots}
use Rattle.plan_core.proofs.IndexedIn.{keeps_order, none_put, put_next, room_here}
use Rattle.plan_core.proofs.indexed.put_in.Goals as goal

pub loop-slot-init : goal.loop-slot-init
loop-slot-init c = none_put c.args.index.now c.args.slots.now c.requires.index c.requires.holds

pub insert-requires-clause-spare : goal.insert-requires-clause-spare
insert-requires-clause-spare c = room_here c.args.index.now c.loop-slot.index c.args.slots.now c.loop-slot.slot-index _ c.loop-slot-test.true c.loop-slot.invariant

pub insert-requires-clause-order : goal.insert-requires-clause-order
insert-requires-clause-order c = keeps_order c.args.index.now c.loop-slot.index c.args.slots.now c.loop-slot.slot-index _ c.loop-slot-test.true c.requires.holds c.loop-slot.invariant

pub loop-slot-preserved : goal.loop-slot-preserved
loop-slot-preserved c =
    put_next c.args.index.now c.loop-slot.index c.insert.new.self c.args.slots.now c.loop-slot.slot-index _ c.loop-slot-test.true c.requires.holds c.loop-slot.invariant
    c.insert.ensures.slots c.insert.ensures.others

pub returns-clause-slots : goal.returns-clause-slots
returns-clause-slots c =
    subst (λ (xs : List Slot). IsPermutation (all_slots c.args.index.now ++ xs) (all_slots c.loop-slot.index)) (take_all c.loop-slot.slot-index c.args.slots.now c.loop-slot-test.false)
    c.loop-slot.invariant.put
