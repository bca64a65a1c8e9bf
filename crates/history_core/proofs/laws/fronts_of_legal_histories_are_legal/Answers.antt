use Rattle.history_core.proofs.Legal.{front_legal}
use Rattle.history_core.proofs.laws.fronts_of_legal_histories_are_legal.Goals as goal

pub returns : goal.returns
returns c = record { legal = front_legal }
