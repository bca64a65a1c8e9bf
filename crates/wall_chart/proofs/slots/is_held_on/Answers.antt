use Rattle.std.proofs.Common.{◌∙◌, ℕ, ap}
use Rattle.plan_lists.specs.Days.{minutes_from, minutes_of_day}
use Rattle.wall_chart.specs.Cells.{is_held_at_some}
use Rattle.wall_chart.proofs.slots.is_held_on.Goals as goal

pub returns : goal.returns
unfolding minutes_of_day
returns c = record { is = c.is_held_at_some.ensures.is ∙ ap (λ (start : ℕ). is_held_at_some (minutes_from start 1440) c.args.slot.now) c.day_start.ensures.is }
