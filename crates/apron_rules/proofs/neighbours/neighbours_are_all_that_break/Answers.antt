use Rattle.apron_rules.proofs.Bordering.{all_listed, no_others_listed}
use Rattle.apron_rules.proofs.neighbours.neighbours_are_all_that_break.Goals as goal

pub returns-clause-all : goal.returns-clause-all
returns-clause-all c = all_listed

pub returns-clause-no_others : goal.returns-clause-no_others
returns-clause-no_others c = no_others_listed
