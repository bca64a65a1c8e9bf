use Rattle.turn_board.proofs.Asking.{over}
use Rattle.turn_board.proofs.steps.finish_call.Goals as goal

pub end_call-requires-clause-over : goal.end_call-requires-clause-over
end_call-requires-clause-over g c = (
  c.args.machine,
  over _ _ c.args.place.now.me c.note_act.new.place.me c.count_entry.new.place.me c.args.machine c.args.added c.requires.acted c.requires.added c.requires.next c.requires.start c.note_act.ensures.noted c.count_entry.ensures.counted,
)
