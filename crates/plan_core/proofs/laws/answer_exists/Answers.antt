use Rattle.plan_core.proofs.AnswerExists.{answer}
use Rattle.plan_core.proofs.laws.answer_exists.Goals as goal

pub returns : goal.returns
returns c = record { some = answer }
