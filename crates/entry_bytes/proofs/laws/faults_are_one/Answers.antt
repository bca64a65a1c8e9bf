use Rattle.entry_bytes.proofs.EntriesSpelt.{fault_is_one}
use Rattle.entry_bytes.proofs.FormerSpelt.{former_fault_is_one}
use Rattle.entry_bytes.proofs.laws.faults_are_one.Goals as goal

pub returns : goal.returns
returns c = record { one = fault_is_one; former = former_fault_is_one }
