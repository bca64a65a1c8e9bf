use Rattle.std.proofs.Common.{◌∙◌, ap, rules, sym}
use Rattle.history_core.specs.Bumped.{last_bumped}
use Rattle.watch_list.specs.HistoryNotes.{HasNoteRoom}
use Rattle.watch_list.proofs.HistoryNotes.{board_noted, room_left}
use Rattle.watch_list.proofs.noted_board.NotedBoard.ask.Goals as goal

pub add_notes-requires : goal.add_notes-requires
add_notes-requires g c =
    let room : HasNoteRoom c.make_room.new.notes c.plan.result.now.plan c.args.ask.now.what = search rules in record {
      bumped = c.bumped.ensures.are ∙ ap last_bumped (sym c.plan-2.ensures.replay);
      room = room_left c.self.inside.board c.ask-acted.new.self c.args.call c.args.ask.now c.ask-acted.result c.plan.result.now.plan c.plan-2.result.now.plan
          c.plan.ensures.replay c.plan-2.ensures.replay c.ask-acted.ensures.asks.airport c.ask-acted.ensures.asks.acts c.make_room.ensures.plan c.make_room.new.notes room;
    }

pub invariant_of-self-2 : goal.invariant_of-self-2
invariant_of-self-2 g c =
    board_noted c.self.inside.board c.ask-acted.new.self c.args.call c.args.ask.now c.ask-acted.result c.plan.result.now.plan c.plan-2.result.now.plan
    c.plan.ensures.replay c.plan-2.ensures.replay c.ask-acted.ensures.asks.airport c.ask-acted.ensures.asks.acts c.make_room.ensures.plan
    c.self.inside.notes.items c.make_room.new.notes.items c.add_notes.new.notes.items c.history-entries.result.now c.history.result.now
    c.self.invariant c.make_room.ensures.items c.ask-acted.ensures.asks.found c.ask-acted.ensures.asks.legal c.history-entries.ensures.value c.history.ensures.value
    c.add_notes.ensures.notes
