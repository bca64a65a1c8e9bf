use Rattle.std.proofs.Common.{◌∙◌, ap, rules}
use Rattle.std.specs.Prelude.{filter}
use Rattle.std.proofs.lemmas.Fn.{filter_same}
use Rattle.plan_lists.specs.OfDay.{is_of_day}
use Rattle.wall_chart.proofs.unplaced.unplaced_on.Goals as goal

pub returns : goal.returns
returns c = record {
  are = filter_same _ (is_of_day c.args.day) _ (λ x b f' k. search rules) _ _ c.retain.ensures.filtered
      ∙ ap (filter (is_of_day c.args.day)) (c.into_vec-rows.ensures.items ∙ c.in_ok-unplaced_parts.ensures.unplaced);
}
