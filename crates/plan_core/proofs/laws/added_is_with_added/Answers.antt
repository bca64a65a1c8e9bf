use Rattle.plan_core.proofs.Added.{adding_adds}
use Rattle.plan_core.proofs.laws.added_is_with_added.Goals as goal

pub returns : goal.returns
returns c = record { installed = adding_adds }
