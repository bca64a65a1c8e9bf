use Rattle.clash_check.proofs.Looked.{clear_without}
use Rattle.clash_check.proofs.laws.clear_is_clear_without_any.Goals as goal

pub returns : goal.returns
returns c = record { clear = clear_without }
