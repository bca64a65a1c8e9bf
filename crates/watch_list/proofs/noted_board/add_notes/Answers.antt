use Rattle.std.proofs.Common.{◌∙◌, sym}
use Rattle.watch_list.proofs.HistoryNotes.{room_for_bumped}
use Rattle.watch_list.proofs.noted_board.add_notes.Goals as goal

pub push_notes-requires-clause-room : goal.push_notes-requires-clause-room
push_notes-requires-clause-room c =
    room_for_bumped c.args.notes.now c.args.plan.now.plan c.args.what.now c.args.bumped.now c.visits-known.ensures.plan c.requires.bumped c.requires.room
    (sym c.may_bump.ensures.is ∙ c.if-may_bump.true)
