use Rattle.std.proofs.Common.{◌∙◌, ap, rules}
use Rattle.std.proofs.lemmas.List.Sorted.{answers_always}
use Rattle.wall_chart.specs.Order.{in_order}
use Rattle.wall_chart.specs.Parts.{part_order}
use Rattle.wall_chart.proofs.Ordered.{row_key, sorted_rows}
use Rattle.wall_chart.proofs.parts.parts_of_day.Goals as goal

pub returns : goal.returns
returns c =
    let computes = answers_always _ _ _ (λ f a r g h. search rules) in
    let up = c.in_ok-sort_by_key.ensures.sorted row_key computes in
    let stable = c.sort_by_key.ensures.stable row_key computes in
    record { are = sorted_rows c.into_vec-rows.result.items c.sort_by_key.new.self.items up stable ∙ ap (in_order part_order) (c.into_vec-rows.ensures.items ∙ c.in_ok-held_on.ensures.held) }
