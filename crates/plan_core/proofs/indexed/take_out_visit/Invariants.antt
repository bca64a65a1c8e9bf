use Rattle.std.proofs.Common.{◌≡◌, ◌+◌, drop}
use Rattle.std.specs.Prelude.{filter}
use Rattle.clash_check.specs.Indexed.{all_slots}
use Rattle.stand_index.specs.Slots.{IsIndex}
use Rattle.plan_core.specs.Indexing.{KeepsRoom, is_off_parts}
use Rattle.plan_core.proofs.indexed.take_out_visit.Given as goal

-- taking out the remaining parts from what is there gives what taking out all gave from what was
-- there
abbrev pub invariant-loop-place : goal.invariant-loop-place
invariant-loop-place l = record {
  told : filter (is_off_parts l.visit.number (l.place + 1) (drop l.place l.parts)) (all_slots l.index) ≡ filter (is_off_parts l.visit.number 1 l.visit.parts) (all_slots l.fn.index);
  index : IsIndex l.index;
  room : KeepsRoom l.fn.index l.index;
}
