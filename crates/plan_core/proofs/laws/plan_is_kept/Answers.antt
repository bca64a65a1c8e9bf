use Rattle.plan_core.proofs.DraftList.{version_had}
use Rattle.plan_core.proofs.Kept.{installs}
use Rattle.plan_core.proofs.laws.plan_is_kept.Goals as goal

pub returns-clause-installed : goal.returns-clause-installed
returns-clause-installed c = installs

pub returns-clause-drafts : goal.returns-clause-drafts
returns-clause-drafts c = λ plan desk number version plan_is made. version_had plan.version plan.drafts desk number version plan_is.drafts made
