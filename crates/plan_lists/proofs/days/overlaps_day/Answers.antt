use Rattle.std.proofs.Common.{sym}
use Rattle.plan_lists.proofs.Minutes.{overlap_of_day}
use Rattle.plan_lists.proofs.days.overlaps_day.Goals as goal

pub returns : goal.returns
returns c = record { is = rw (c.max.ensures, c.min.ensures) (sym (overlap_of_day c.args.from c.args.end c.args.day)) }
