use Rattle.entry_bytes.proofs.Loops.{fits_more, written_more}
use Rattle.entry_bytes.proofs.commits.push_edits.Goals as goal

pub loop-edit-preserved : goal.loop-edit-preserved
loop-edit-preserved c =
    let edits = c.args.edits.now in
    let i = c.loop-edit.edit-index in (
      written_more edits i _ c.args.out.now.items c.loop-edit.out.items c.push_edit.new.out.items c.loop-edit-test.true c.loop-edit.invariant.0 c.in_ok-push_edit.ensures.text,
      fits_more edits i _ c.loop-edit-test.true c.loop-edit.invariant.1 c.in_ok-push_edit.ensures.fits,
    )
