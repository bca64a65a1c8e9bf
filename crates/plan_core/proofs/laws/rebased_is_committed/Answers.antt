use Rattle.plan_core.proofs.Kept.{rebase_commits}
use Rattle.plan_core.proofs.laws.rebased_is_committed.Goals as goal

pub returns : goal.returns
returns c = record { installed = rebase_commits }
