use Rattle.std.proofs.Common.{◌≡◌, ◌≤◌, take}
use Rattle.std.specs.Prelude.{All, count_by}
use Rattle.clash_check.specs.Indexed.{all_slots}
use Rattle.stand_index.specs.Slots.{IsIndex, at_stand}
use Rattle.plan_core.specs.Indexing.{KeepsRoom}
use Rattle.plan_core.specs.PlanState.{is_on}
use Rattle.plan_core.proofs.indexed.reserve.Given as goal

abbrev pub invariant-loop-slot : goal.invariant-loop-slot
invariant-loop-slot l = record {
  each : All (λ slot. count_by (is_on slot.stand) l.slots ≤ (at_stand l.index slot.stand).spare) (take l.slot-index l.slots);
  slots : all_slots l.index ≡ all_slots l.fn.index;
  index : IsIndex l.index;
  room : KeepsRoom l.fn.index l.index;
}
