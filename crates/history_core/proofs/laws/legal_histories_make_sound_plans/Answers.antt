use Rattle.history_core.proofs.Legal.{legal_sound}
use Rattle.history_core.proofs.laws.legal_histories_make_sound_plans.Goals as goal

pub returns : goal.returns
returns c = record { sound = legal_sound }
