use Rattle.std.proofs.Common.{subst, sym}
use Rattle.journal_disk.specs.Extent.{IsCrashSafe, entries_within}
use Rattle.apron_run.specs.Survival.{LeavesFronts}
use Rattle.apron_run.proofs.files_journal.FilesJournal.into_disk.Goals as goal

pub returns-clause-entries : goal.returns-clause-entries
returns-clause-entries g c =
    subst (λ journal. IsCrashSafe journal.extent (g.D.Disk.state c.into_disk.result)) c.self.view_is c.into_disk.ensures.entries

pub returns-clause-fronts : goal.returns-clause-fronts
returns-clause-fronts g c =
    let journal = c.self.inside.journal in
    subst (λ held. LeavesFronts g.N.OfFiles.digests (entries_within held.extent) g.N.OfFiles.begun (g.D.Disk.state c.into_disk.result)) c.self.view_is
    (subst (λ d. LeavesFronts g.N.OfFiles.digests (entries_within journal.extent) g.N.OfFiles.begun (g.D.Disk.state d)) (sym c.into_disk.ensures.disk) c.self.invariant.1)
