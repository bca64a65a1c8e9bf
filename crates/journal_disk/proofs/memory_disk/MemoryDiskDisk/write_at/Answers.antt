use Rattle.std.proofs.Common.{refl}
use Rattle.journal_disk.proofs.Replay.{goes-same, goes-torn}
use Rattle.journal_disk.proofs.Tells.{on_ok}
use Rattle.journal_disk.proofs.memory_disk.MemoryDiskDisk.write_at.Goals as goal

pub returns-clause-crash : goal.returns-clause-crash
returns-clause-crash c = goes-torn _ c.args.piece.now _ _ c.make.ensures.crash

pub returns-clause-again : goal.returns-clause-again
returns-clause-again c = λ there. goes-same _ c.args.piece.now _ _ _ refl c.make.ensures.crash there

pub returns-clause-done : goal.returns-clause-done
returns-clause-done c = on_ok c.make.result c.make.ensures.done (λ same bytes is. same)
