use Rattle.std.proofs.Common.{◌∙◌, ◌+◌, ◌*◌, ℕ, ap}
use Rattle.plan_lists.specs.Days.{minutes_from}
use Rattle.wall_chart.specs.Cells.{cell, quarter_minutes}
use Rattle.wall_chart.proofs.Written.{marks_more}
use Rattle.wall_chart.proofs.cells.push_cells.Goals as goal

pub loop-quarter-preserved : goal.loop-quarter-preserved
loop-quarter-preserved c =
    let slots = c.args.slots.now in
    let stand = c.args.stand in
    marks_more (λ quarter. cell slots stand (quarter_minutes c.args.day quarter)) c.args.text.now.items c.loop-quarter.text.items c.push.new.self.items c.loop-quarter.quarter c.cell.result
    c.loop-quarter.invariant
    (c.cell.ensures.is ∙ ap (λ (start : ℕ). cell slots stand (minutes_from (start + 15 * c.loop-quarter.quarter) 15)) c.day_start-start.ensures.is)
    c.in_ok-push.ensures.items
