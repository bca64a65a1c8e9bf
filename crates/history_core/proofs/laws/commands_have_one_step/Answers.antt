use Rattle.history_core.proofs.Takings.{one_step, some_step}
use Rattle.history_core.proofs.laws.commands_have_one_step.Goals as goal

pub returns : goal.returns
returns c = record { some = some_step; one = one_step }
