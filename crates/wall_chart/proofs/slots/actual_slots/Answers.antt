use Rattle.std.proofs.Common.{◌∙◌, List, ap, rules, take_all}
use Rattle.std.specs.Prelude.{filter}
use Rattle.std.proofs.lemmas.Fn.{filter_same}
use Rattle.visit_book.specs.declared.visits.Visit.{Visit}
use Rattle.visit_book.specs.Slots.{slots_of}
use Rattle.wall_chart.specs.Alarms.{is_actual_on}
use Rattle.wall_chart.proofs.slots.actual_slots.Goals as goal

pub returns : goal.returns
returns c = record {
  are = filter_same _ (is_actual_on c.args.day) _ (λ x b f' k. search rules) _ _ c.retain.ensures.filtered
      ∙ ap (filter (is_actual_on c.args.day))
      (c.loop-visit.invariant ∙ ap (λ (visits : List Visit). slots_of c.args.airport.now visits) (take_all c.loop-visit.visit-index c.args.visits.now c.loop-visit-test.false));
}
