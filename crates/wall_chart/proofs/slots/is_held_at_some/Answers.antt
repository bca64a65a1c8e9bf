use Rattle.std.proofs.Common.{sym}
use Rattle.plan_lists.proofs.Minutes.{overlap}
use Rattle.wall_chart.proofs.slots.is_held_at_some.Goals as goal

pub returns : goal.returns
returns c = record { is = rw (c.max.ensures, c.min.ensures) (sym (overlap c.args.slot.now.from c.args.slot.now.end c.args.from c.args.count)) }
