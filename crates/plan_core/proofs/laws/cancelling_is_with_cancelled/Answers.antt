use Rattle.std.proofs.Common.{refl}
use Rattle.plan_core.proofs.laws.cancelling_is_with_cancelled.Goals as goal

pub returns : goal.returns
returns c = record { installed = λ plan visit numbered cancellable. refl }
