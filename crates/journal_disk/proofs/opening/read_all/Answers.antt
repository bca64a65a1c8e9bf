use Rattle.std.proofs.Common.{◌∙◌, ap, take, ◌≡◌, length}
use Rattle.journal_disk.proofs.OpenedTexts.{read_whole}
use Rattle.journal_disk.proofs.opening.read_all.Goals as goal

pub returns-clause-bytes : goal.returns-clause-bytes
returns-clause-bytes g c = λ b told.
    let synced = c.sync.ensures.stays.contents ∙ told in
    let n = c.in_ok-length.ensures.length b synced in
    let len : c.in_ok-bytes.bytes.len ≡ c.in_ok-length.length = c.in_ok-bytes.ensures.len in
    let given : length c.deref_mut.result.now ≡ c.in_ok-length.length = c.deref_mut.ensures.len ∙ c.in_ok-bytes.ensures.len in
    read_whole c.in_ok-length.length c.in_ok-bytes.bytes.len b c.read.new.into _ n len (c.in_ok-read.ensures.read b (c.length.ensures.stays.contents ∙ synced) ∙ ap (λ k. take k b) given)
