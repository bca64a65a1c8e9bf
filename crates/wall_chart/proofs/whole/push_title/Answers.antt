use Rattle.std.proofs.Common.{◌∙◌, ◌++◌, ◌∷◌, [], List, ℕ, ap}
use Rattle.std.specs.Prelude.{codes}
use Rattle.wall_chart.specs.Times.{plan_date_text}
use Rattle.wall_chart.proofs.Written.{four_pieces}
use Rattle.wall_chart.proofs.whole.push_title.Goals as goal

pub returns : goal.returns
returns c = record {
  text = four_pieces c.args.text.now.items (codes "STAND CHART ") c.args.airport.now.station (32 ∷ []) (plan_date_text c.args.airport.now c.args.day)
      c.extend_from_slice.new.self.items c.extend_from_slice-2.new.self.items c.push.new.self.items c.push_date.new.text.items c.in_ok-extend_from_slice.ensures.items
      (c.in_ok-extend_from_slice-2.ensures.items ∙ ap (λ (name : List ℕ). c.extend_from_slice.new.self.items ++ name) c.bytes.ensures.value)
      c.in_ok-push.ensures.items c.in_ok-push_date.ensures.text;
}
