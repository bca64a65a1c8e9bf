use Rattle.std.proofs.Common.{length}
use Rattle.desk_workers.proofs.crew.+fn-work_all-work_beside+work_all.Given as goal

abbrev pub decreases-work_beside : goal.decreases-work_beside
decreases-work_beside g l = length l.rest.now

abbrev pub decreases-work_all : goal.decreases-work_all
decreases-work_all g l = length l.listeners.now
