use Rattle.bump_core.proofs.Made.{settled_plan}
use Rattle.bump_core.proofs.laws.settled_plan_is_plan.Goals as goal

pub returns : goal.returns
returns c = record { plan = settled_plan }
