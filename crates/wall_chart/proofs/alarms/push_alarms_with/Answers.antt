use Rattle.std.proofs.Common.{◌∙◌, ◌+◌, ◌-◌, ℕ, List, ap, arith, map}
use Rattle.std.specs.List.{flat_map}
use Rattle.apron_rules.specs.declared.rules.Clash.{Clash}
use Rattle.stand_index.specs.Slots.{StandSlots}
use Rattle.clash_check.specs.Indexed.{all_slots}
use Rattle.clash_check.specs.Meetings.{by_part, clashes_within}
use Rattle.wall_chart.specs.Alarms.{is_in_order}
use Rattle.wall_chart.specs.KeptAlarms.{alarms_in, clash_of}
use Rattle.wall_chart.proofs.Clashes.{alarms_more, filter_is, plan_slot_of}
use Rattle.wall_chart.proofs.Written.{ok_then}
use Rattle.plan_lists.specs.declared.days.TheConstants.{DAY_LENGTH}
use Rattle.wall_chart.proofs.alarms.push_alarms_with.Goals as goal

pub clashes_within-requires-clause-slot : goal.clashes_within-requires-clause-slot
clashes_within-requires-clause-slot g c =
    let held = c.args.plan.now in
    plan_slot_of c.args.airport.now held.plan.airport held.index held.plan.visits c.args.slot.now c.requires.airport c.index.ensures.clear c.index.ensures.indexed c.requires.slot

pub returns : goal.returns
returns g c =
    let held = c.args.plan.now in
    let airport = c.args.airport.now in
    let slot = c.args.slot.now in
    let day = c.args.day in
    let more = c.day_start-start.result + DAY_LENGTH - c.day_start-start.result in
    record {
      ok = ok_then c.push_in_order.result _ _ (λ pushed. alarms_more airport held.plan.airport held.index held.plan.visits day more slot c.in_ok-clashes.clashes (flat_map alarms_in c.as_slice.result.now)
          (map clash_of c.args.found.now.items) (map clash_of c.push_in_order.new.found.items) c.requires.airport c.index.ensures.clear c.index.ensures.indexed c.index.ensures.ordered c.requires.slot c.requires.actual (omega arith)
          (c.in_ok-clashes.ensures.clashes
          ∙ (ap (λ (index : List StandSlots). clashes_within airport slot c.day_start-start.result more (by_part (all_slots index))) c.index.ensures.value
          ∙ ap (λ (start : ℕ). clashes_within airport slot start more (by_part (all_slots held.index))) c.day_start-start.ensures.is))
          (ap (λ (found : List Clash). flat_map alarms_in found) c.as_slice.ensures.items ∙ filter_is is_in_order c.in_ok-clashes.clashes)
          pushed)
          c.push_in_order.ensures.ok;
    }
