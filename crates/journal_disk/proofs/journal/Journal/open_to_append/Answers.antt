use Rattle.std.proofs.Common.{◌∙◌, sym}
use Rattle.journal_disk.proofs.journal.Journal.open_to_append.Goals as goal

pub of-requires-clause-whole : goal.of-requires-clause-whole
of-requires-clause-whole g c = λ bytes told.
    let before = sym c.in-Ok.ensures.stays.contents ∙ told in
    (c.in-Ok.ensures.durable bytes before, c.in-Ok.ensures.whole bytes before)
