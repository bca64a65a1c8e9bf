use Rattle.visit_effects.proofs.OneVisit.{effect_of_one}
use Rattle.visit_effects.proofs.laws.effects_are_of_one_visit.Goals as goal

pub returns : goal.returns
returns c = record { one = effect_of_one }
