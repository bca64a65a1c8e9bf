use Rattle.plan_core.proofs.OneSlot.{slots_have_different_parts}
use Rattle.plan_core.proofs.laws.slots_have_different_parts.Goals as goal

pub returns : goal.returns
returns c = record { apart = slots_have_different_parts }
