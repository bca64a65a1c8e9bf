use Rattle.std.proofs.Common.{ap}
use Rattle.journal_disk.proofs.Replay.{ok-safe}
use Rattle.journal_disk.proofs.Tells.{on_ok}
use Rattle.journal_disk.proofs.memory_disk.MemoryDiskDisk.sync.Goals as goal

pub returns-clause-durable : goal.returns-clause-durable
returns-clause-durable c = ok-safe c.make.result _ _ _ _ c.args.self.now.faults c.make.new.self.faults (ap (λ d. d.first) c.make.ensures.kept) c.make.ensures.ok

pub returns-clause-done : goal.returns-clause-done
returns-clause-done c = on_ok c.make.result c.make.ensures.done (λ same bytes is. same)
