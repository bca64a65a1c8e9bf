use Rattle.apron_run.proofs.Asking.{all_there, second_nothing}
use Rattle.apron_run.proofs.laws.second_imports_add_nothing.Goals as goal

pub returns : goal.returns
returns c = record { there = all_there; nothing = second_nothing }
