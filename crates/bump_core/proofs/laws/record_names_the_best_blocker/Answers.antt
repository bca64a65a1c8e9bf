use Rattle.bump_core.proofs.Records.{bump_is_record}
use Rattle.bump_core.proofs.laws.record_names_the_best_blocker.Goals as goal

pub returns : goal.returns
returns c = record { names = bump_is_record }
