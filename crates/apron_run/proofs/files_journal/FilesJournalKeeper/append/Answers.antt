use Rattle.journal_disk.specs.Extent.{keeper_of}
use Rattle.apron_run.proofs.Fronts.{fronts_on, risks_on}
use Rattle.apron_run.proofs.Headers.{still_of}
use Rattle.apron_run.proofs.files_journal.FilesJournalKeeper.append.Goals as goal

pub invariant_of-self : goal.invariant_of-self
invariant_of-self g c =
    let digests = g.N.OfFiles.digests in
    let journal = c.self.inside.journal in
    let now = c.append.new.self in
    let entry = c.args.entry.now in
    let before = g.D.Disk.state journal.disk in
    let after = g.D.Disk.state now.disk in
    let append = c.append.ensures in
    let (of, fronts, risks) = c.self.invariant in
    let of_now = still_of digests entry journal.extent before after of append.continues append.crash (g.met.D.Disk.reads now.disk) in
    let risks_now = risks_on (keeper_of journal.extent before) (keeper_of now.extent after) entry c.append.result append.ok append.err in (
      of_now,
      fronts_on digests entry journal.extent now.extent g.N.OfFiles.begun before after of of_now fronts risks risks_now append.continues append.crash append.afterwards
          c.append.result append.ok append.err,
      risks_now,
    )
