use Rattle.std.proofs.Common.{◌∙◌, ◌++◌, List, ℕ, ap}
use Rattle.apron_rules.specs.declared.parts.AirportParts.{AirportParts}
use Rattle.visit_book.specs.Slots.{slots_of}
use Rattle.wall_chart.specs.Chart.{chart_first_line, stand_lines, unplaced_lines}
use Rattle.wall_chart.proofs.Written.{whole}
use Rattle.wall_chart.proofs.whole.chart_from.Goals as goal

pub returns : goal.returns
returns g c =
    let airport = c.args.airport.now in
    let plan = c.args.plan.now.plan in
    let day = c.args.day in
    let parts = c.parts-parts.result.now in
    let parts_are = c.parts-parts.ensures.value in
    let first = c.push_chart_first_line.new.text.items in
    let rows = c.push_part_lines.new.text.items in
    record {
      text = c.from_vec.ensures.items
          ∙ whole airport plan day first c.push_stand_lines.new.text.items rows c.push_unplaced_lines.new.text.items c.push_alarm_lines.new.text.items c.extend_from_slice.new.self.items
          (c.in_ok-push_chart_first_line.ensures.text
          ∙ (ap (λ (text : List ℕ). text ++ chart_first_line parts c.version.result day) c.new-text.ensures.items
          ∙ (ap (λ (a : AirportParts). chart_first_line a c.version.result day) parts_are ∙ ap (λ (version : ℕ). chart_first_line airport version day) c.version.ensures.value)))
          (c.in_ok-push_stand_lines.ensures.text ∙ ap (λ (a : AirportParts). first ++ stand_lines a (slots_of a plan.visits) day) parts_are)
          c.in_ok-push_part_lines.ensures.text
          (c.in_ok-push_unplaced_lines.ensures.text ∙ ap (λ (a : AirportParts). rows ++ unplaced_lines a plan day) parts_are)
          c.in_ok-push_alarm_lines.ensures.text
          c.in_ok-extend_from_slice.ensures.items;
    }
