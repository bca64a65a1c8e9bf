use Rattle.std.proofs.Common.{◌≡◌, drop}
use Rattle.std.specs.Prelude.{filter}
use Rattle.clash_check.specs.Indexed.{all_slots}
use Rattle.stand_index.specs.Slots.{IsIndex}
use Rattle.plan_core.specs.Indexing.{KeepsRoom, is_off_visits}
use Rattle.plan_core.proofs.indexed.take_out.Given as goal

-- taking out the remaining visits from what is there gives what taking out all gave from what was
-- there
abbrev pub invariant-loop-visit : goal.invariant-loop-visit
invariant-loop-visit l = record {
  told : filter (is_off_visits l.visits (drop l.visit-index l.changed)) (all_slots l.index) ≡ filter (is_off_visits l.visits l.changed) (all_slots l.fn.index);
  index : IsIndex l.index;
  room : KeepsRoom l.fn.index l.index;
}
