use Rattle.plan_core.proofs.OneRefusal.{rebased_or_refused, refusals_are_one}
use Rattle.plan_core.proofs.laws.answer_is_one.Goals as goal

pub returns-clause-refusal : goal.returns-clause-refusal
returns-clause-refusal c = refusals_are_one

pub returns-clause-either : goal.returns-clause-either
returns-clause-either c = rebased_or_refused
