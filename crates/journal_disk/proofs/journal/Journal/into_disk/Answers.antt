use Rattle.journal_disk.proofs.Settled.{kept_safe}
use Rattle.journal_disk.proofs.journal.Journal.into_disk.Goals as goal

pub returns-clause-entries : goal.returns-clause-entries
returns-clause-entries g c = rw (← c.self.view_is) (kept_safe _ _ c.self.invariant (g.met.D.Disk.reads c.self.inside.disk))
