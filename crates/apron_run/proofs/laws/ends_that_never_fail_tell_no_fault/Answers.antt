use Rattle.apron_run.proofs.Causing.{no_fault_told}
use Rattle.apron_run.proofs.laws.ends_that_never_fail_tell_no_fault.Goals as goal

pub returns : goal.returns
returns g c = record { none = no_fault_told g.D.Disk.state }
