use Rattle.std.proofs.Common.{◌++◌}
use Rattle.clash_check.specs.Indexed.{all_slots}
use Rattle.stand_proposer.specs.Trials.{AreTrials}
use Rattle.stand_proposer.proofs.trials.first_stand.Given as goal

abbrev pub invariant-loop-number : goal.invariant-loop-number
invariant-loop-number g l = AreTrials l.airport (all_slots l.index ++ l.more) l.visit l.row l.number l.whys
