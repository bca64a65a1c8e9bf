use Rattle.std.proofs.Common.{◌∙◌, List, ap, rules, take_all}
use Rattle.std.specs.Prelude.{filter}
use Rattle.std.specs.List.{flat_map}
use Rattle.std.proofs.lemmas.List.Sorted.{answers_always}
use Rattle.apron_base.specs.declared.slot.Slot.{Slot}
use Rattle.visit_book.specs.declared.visits.Visit.{Visit}
use Rattle.visit_book.specs.Slots.{slots_of}
use Rattle.wall_chart.specs.Order.{in_order}
use Rattle.wall_chart.specs.Alarms.{alarm_order, alarms_with, is_actual_on}
use Rattle.wall_chart.proofs.Clashes.{actual_listed, alarms_are}
use Rattle.wall_chart.proofs.Ordered.{alarm_key, sorted_alarms}
use Rattle.wall_chart.proofs.alarms.alarms.Goals as goal

pub push_alarms_with-requires-clause-slot : goal.push_alarms_with-requires-clause-slot
push_alarms_with-requires-clause-slot g c =
    let airport = c.args.airport.now in
    let are = c.deref-slot-items.ensures.value ∙ c.in_ok-slots.ensures.are ∙ ap (λ (all : List Visit). filter (is_actual_on c.args.day) (slots_of airport all)) c.visits.ensures.value in
    (actual_listed airport c.args.plan.now.plan.visits c.args.day c.deref-slot-items.result.now c.loop-slot.slot-index _ are c.loop-slot-test.true).0

pub push_alarms_with-requires-clause-actual : goal.push_alarms_with-requires-clause-actual
push_alarms_with-requires-clause-actual g c =
    let airport = c.args.airport.now in
    let are = c.deref-slot-items.ensures.value ∙ c.in_ok-slots.ensures.are ∙ ap (λ (all : List Visit). filter (is_actual_on c.args.day) (slots_of airport all)) c.visits.ensures.value in
    (actual_listed airport c.args.plan.now.plan.visits c.args.day c.deref-slot-items.result.now c.loop-slot.slot-index _ are c.loop-slot-test.true).1

pub returns : goal.returns
returns g c =
    let airport = c.args.airport.now in
    let day = c.args.day in
    let all = slots_of airport c.args.plan.now.plan.visits in
    let are = c.deref-slot-items.ensures.value ∙ c.in_ok-slots.ensures.are ∙ ap (λ (visits : List Visit). filter (is_actual_on day) (slots_of airport visits)) c.visits.ensures.value in
    let computes = answers_always _ _ _ (λ f a r g h. search rules) in
    let up = c.in_ok-sort_by_key.ensures.sorted alarm_key computes in
    let stable = c.sort_by_key.ensures.stable alarm_key computes in
    record {
      are = sorted_alarms c.loop-slot.found.items c.sort_by_key.new.self.items up stable
          ∙ (ap (in_order alarm_order)
          (c.loop-slot.invariant ∙ ap (λ (slots : List Slot). flat_map (alarms_with airport day all) slots) (take_all c.loop-slot.slot-index c.deref-slot-items.result.now c.loop-slot-test.false ∙ are))
          ∙ alarms_are airport day all);
    }
