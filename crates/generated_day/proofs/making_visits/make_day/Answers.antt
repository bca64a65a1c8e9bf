use Rattle.std.proofs.Common.{arith}
use Rattle.generated_day.specs.Makings.{day_so_far}
use Rattle.generated_day.proofs.Steps.{day-next, makes-by}
use Rattle.generated_day.proofs.making_visits.make_day.Goals as goal

pub loop-made-preserved : goal.loop-made-preserved
loop-made-preserved c = day-next c.loop-made.made (day_so_far c.loop-made.making) (day_so_far c.make_visit.new.making) c.loop-made.invariant c.in_ok-make_visit.ensures.made

pub returns : goal.returns
returns c = record { made = makes-by c.summary.result c.args.visits c.loop-made.made (day_so_far c.loop-made.making) (omega arith) c.loop-made.invariant c.summary.ensures.is }
